use Rattle.std.proofs.Common.{length}
use Rattle.run_opening.proofs.judging.+shared_by_devices.Given as goal

abbrev pub decreases-shared_by_devices : goal.decreases-shared_by_devices
decreases-shared_by_devices g l = length l.devices.now
