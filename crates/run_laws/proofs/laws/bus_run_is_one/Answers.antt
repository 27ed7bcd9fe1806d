use Rattle.run_laws.proofs.OneRun.{bus-run-is-one}
use Rattle.run_laws.proofs.laws.bus_run_is_one.Goals as goal

pub returns : goal.returns
returns c = bus-run-is-one c.step_is_one.ensures c.step_is_valid.ensures
