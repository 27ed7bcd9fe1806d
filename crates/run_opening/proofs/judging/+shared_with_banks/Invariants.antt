use Rattle.std.proofs.Common.{length}
use Rattle.run_opening.proofs.judging.+shared_with_banks.Given as goal

abbrev pub decreases-shared_with_banks : goal.decreases-shared_with_banks
decreases-shared_with_banks l = length l.banks.now
