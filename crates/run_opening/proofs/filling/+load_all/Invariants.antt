use Rattle.std.proofs.Common.{length}
use Rattle.run_opening.proofs.filling.+load_all.Given as goal

abbrev pub decreases-load_all : goal.decreases-load_all
decreases-load_all g l = length l.loads.now
