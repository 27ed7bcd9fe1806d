use Rattle.std.proofs.Common.{◌-◌}
use Rattle.arm7_transfers.proofs.block.+all_there.Given as goal

abbrev pub decreases-all_there : goal.decreases-all_there
decreases-all_there g l = 16 - l.k
