use Rattle.run_laws.proofs.OneStep.{bus-step-is-one}
use Rattle.run_laws.proofs.laws.bus_step_is_one.Goals as goal

pub returns : goal.returns
returns c = bus-step-is-one c.step_is_one.ensures
