use Rattle.std.proofs.Common.{◌-◌}
use Rattle.arm7_transfers.proofs.block.+take_all.Given as goal

abbrev pub decreases-take_all : goal.decreases-take_all
decreases-take_all g l = 16 - l.k
