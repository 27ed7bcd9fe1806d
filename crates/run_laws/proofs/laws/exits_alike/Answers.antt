use Rattle.run_laws.proofs.BusExits.{exits-alike}
use Rattle.run_laws.proofs.laws.exits_alike.Goals as goal

pub returns : goal.returns
returns c = exits-alike c.runs_are_transparent.ensures
