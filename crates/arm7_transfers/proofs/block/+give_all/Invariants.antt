use Rattle.std.proofs.Common.{◌-◌}
use Rattle.arm7_transfers.proofs.block.+give_all.Given as goal

abbrev pub decreases-give_all : goal.decreases-give_all
decreases-give_all g l = 16 - l.k
