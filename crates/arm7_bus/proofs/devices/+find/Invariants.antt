use Rattle.std.proofs.Common.{length}
use Rattle.arm7_bus.proofs.devices.+find.Given as goal

abbrev pub decreases-find : goal.decreases-find
decreases-find g l = length l.devices.now
