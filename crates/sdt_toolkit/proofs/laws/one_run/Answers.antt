use Rattle.sdt_toolkit.proofs.RunOnce.{one_run}
use Rattle.sdt_toolkit.proofs.laws.one_run.Goals as goal

pub returns : goal.returns
returns c = one_run c.bus_run_is_one.ensures
