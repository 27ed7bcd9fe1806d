use Rattle.run_laws.proofs.BusStarted.{started-exits-alike}
use Rattle.run_laws.proofs.laws.started_exits_alike.Goals as goal

pub returns : goal.returns
returns c = started-exits-alike c.step_is_valid.ensures c.bus_run_is_one.ensures c.exits_alike.ensures
