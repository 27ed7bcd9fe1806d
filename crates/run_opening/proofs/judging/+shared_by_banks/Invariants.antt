use Rattle.std.proofs.Common.{length}
use Rattle.run_opening.proofs.judging.+shared_by_banks.Given as goal

abbrev pub decreases-shared_by_banks : goal.decreases-shared_by_banks
decreases-shared_by_banks l = length l.banks.now
