use Rattle.arm7_transfers.proofs.ReadyLemmas.{ready_after_read}
use Rattle.arm7_transfers.proofs.access.read.Goals as goal

pub returns-in-Ok-clause-ready : goal.returns-in-Ok-clause-ready
returns-in-Ok-clause-ready g c = ready_after_read _ _ c.args.a c.args.width c.in-Ok.ensures.after c.requires.ready

pub returns-in-Err-clause-ready : goal.returns-in-Err-clause-ready
returns-in-Err-clause-ready g c = ready_after_read _ _ c.args.a c.args.width c.in-Err.ensures.after c.requires.ready
