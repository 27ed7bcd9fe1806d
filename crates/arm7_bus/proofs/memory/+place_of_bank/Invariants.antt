use Rattle.std.proofs.Common.{length}
use Rattle.arm7_bus.proofs.memory.+place_of_bank.Given as goal

abbrev pub decreases-place_of_bank : goal.decreases-place_of_bank
decreases-place_of_bank l = length l.banks.now
