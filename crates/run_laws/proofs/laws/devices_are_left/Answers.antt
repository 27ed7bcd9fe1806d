use Rattle.run_laws.proofs.Devices.{devices-are-left}
use Rattle.run_laws.proofs.laws.devices_are_left.Goals as goal

pub returns : goal.returns
returns c = devices-are-left
