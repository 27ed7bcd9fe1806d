use Rattle.std.proofs.Common.{length}
use Rattle.armsd_core.proofs.stepping.+least_stored.Given as goal

abbrev pub decreases-least_stored : goal.decreases-least_stored
decreases-least_stored l = length l.stores.now
