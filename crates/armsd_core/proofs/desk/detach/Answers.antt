use Rattle.armsd_core.proofs.DetachLemmas.{detached, ready_detached}
use Rattle.armsd_core.proofs.desk.detach.Goals as goal

pub returns-clause-bus : goal.returns-clause-bus
returns-clause-bus g c = detached _ _ c.args.i c.detach-gone.result c.detach-gone.ensures.answer c.detach-gone.ensures.ok c.detach-gone.ensures.err

pub returns-clause-ready : goal.returns-clause-ready
returns-clause-ready g c = ready_detached _ _ c.args.i c.detach-gone.result c.requires c.detach-gone.ensures.answer c.detach-gone.ensures.ok c.detach-gone.ensures.err
