use Rattle.std.proofs.Common.{length}
use Rattle.run_opening.proofs.filling.+protect_all.Given as goal

abbrev pub decreases-protect_all : goal.decreases-protect_all
decreases-protect_all g l = length l.ranges.now
