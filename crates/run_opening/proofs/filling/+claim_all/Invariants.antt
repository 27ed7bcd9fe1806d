use Rattle.std.proofs.Common.{length}
use Rattle.run_opening.proofs.filling.+claim_all.Given as goal

abbrev pub decreases-claim_all : goal.decreases-claim_all
decreases-claim_all g l = length l.needs.now
