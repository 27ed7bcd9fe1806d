use Rattle.armsd_core.proofs.ReadLemmas.{told_found, told_only}
use Rattle.armsd_core.proofs.script.read_script.Goals as goal

pub returns-clause-found : goal.returns-clause-found
returns-clause-found c = told_found c.args.b.now c.args.devices c.script.result c.script.ensures

pub returns-clause-only : goal.returns-clause-only
returns-clause-only c = told_only c.args.b.now c.args.devices c.script.result c.script.ensures
