use Rattle.std.proofs.Common.{◌-◌}
use Rattle.arm7_transfers.proofs.block.+least_unused.Given as goal

abbrev pub decreases-least_unused : goal.decreases-least_unused
decreases-least_unused g l = 16 - l.k
