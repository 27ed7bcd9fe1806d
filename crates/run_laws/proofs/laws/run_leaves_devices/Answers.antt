use Rattle.run_laws.proofs.MadeSteps.{run-leaves-devices}
use Rattle.run_laws.proofs.laws.run_leaves_devices.Goals as goal

pub returns : goal.returns
returns c = run-leaves-devices
