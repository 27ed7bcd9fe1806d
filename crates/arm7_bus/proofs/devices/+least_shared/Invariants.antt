use Rattle.std.proofs.Common.{length}
use Rattle.arm7_bus.proofs.devices.+least_shared.Given as goal

abbrev pub decreases-least_shared : goal.decreases-least_shared
decreases-least_shared g l = length l.devices.now
