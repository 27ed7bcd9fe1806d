use Rattle.sdt_toolkit.proofs.RunSteps.{runs_start}
use Rattle.sdt_toolkit.proofs.laws.runs_start.Goals as goal

pub returns : goal.returns
returns c = runs_start c.bus_run_is_one.ensures c.made_steps_are_one.ensures
