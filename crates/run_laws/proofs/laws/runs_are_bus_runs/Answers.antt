use Rattle.run_laws.proofs.BusRuns.{runs-are-bus-runs}
use Rattle.run_laws.proofs.laws.runs_are_bus_runs.Goals as goal

pub returns : goal.returns
returns c = runs-are-bus-runs
