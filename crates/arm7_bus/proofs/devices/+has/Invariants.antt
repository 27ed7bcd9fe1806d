use Rattle.std.proofs.Common.{length}
use Rattle.arm7_bus.proofs.devices.+has.Given as goal

abbrev pub decreases-has : goal.decreases-has
decreases-has g l = length l.devices.now
