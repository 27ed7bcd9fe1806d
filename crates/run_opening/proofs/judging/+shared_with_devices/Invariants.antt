use Rattle.std.proofs.Common.{length}
use Rattle.run_opening.proofs.judging.+shared_with_devices.Given as goal

abbrev pub decreases-shared_with_devices : goal.decreases-shared_with_devices
decreases-shared_with_devices g l = length l.devices.now
