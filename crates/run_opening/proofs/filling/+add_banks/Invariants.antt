use Rattle.std.proofs.Common.{length}
use Rattle.run_opening.proofs.filling.+add_banks.Given as goal

abbrev pub decreases-add_banks : goal.decreases-add_banks
decreases-add_banks g l = length l.ranges.now
