use Rattle.std.proofs.Common.{length}
use Rattle.arm7_bus.proofs.memory.+next_edge.Given as goal

abbrev pub decreases-next_edge : goal.decreases-next_edge
decreases-next_edge l = length l.banks.now
