use Rattle.std.proofs.Common.{length}
use Rattle.run_opening.proofs.judging.+end_of_bank.Given as goal

abbrev pub decreases-end_of_bank : goal.decreases-end_of_bank
decreases-end_of_bank l = length l.banks.now
