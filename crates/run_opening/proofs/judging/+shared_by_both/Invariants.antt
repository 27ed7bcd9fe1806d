use Rattle.std.proofs.Common.{length}
use Rattle.run_opening.proofs.judging.+shared_by_both.Given as goal

abbrev pub decreases-shared_by_both : goal.decreases-shared_by_both
decreases-shared_by_both g l = length l.banks.now
