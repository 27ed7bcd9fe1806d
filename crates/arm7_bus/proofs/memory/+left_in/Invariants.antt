use Rattle.std.proofs.Common.{length}
use Rattle.arm7_bus.proofs.memory.+left_in.Given as goal

abbrev pub decreases-left_in : goal.decreases-left_in
decreases-left_in l = length l.banks.now
