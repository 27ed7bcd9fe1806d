use Rattle.run_laws.proofs.BusRuns.{bus-runs-are-runs}
use Rattle.run_laws.proofs.laws.bus_runs_are_runs.Goals as goal

pub returns : goal.returns
returns c = bus-runs-are-runs
