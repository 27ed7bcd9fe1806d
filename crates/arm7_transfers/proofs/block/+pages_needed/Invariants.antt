use Rattle.std.proofs.Common.{◌-◌}
use Rattle.arm7_transfers.proofs.block.+pages_needed.Given as goal

abbrev pub decreases-pages_needed : goal.decreases-pages_needed
decreases-pages_needed g l = 16 - l.k
