use Rattle.std.proofs.Common.{Some, None, refl}
use Rattle.arm7_transfers.proofs.AccessLemmas.{absent_left, answer_there}
use Rattle.arm7_transfers.proofs.ReadyLemmas.{ready_after_read}
use Rattle.arm7_transfers.proofs.access.load.Goals as goal

pub returns-in-Ok-clause-there : goal.returns-in-Ok-clause-there
returns-in-Ok-clause-there g c = answer_there _ _ c.args.a c.args.width (Some c.in-Ok.v) c.in-Ok.ensures.answer c.in-Ok.ensures.after

pub returns-in-Ok-clause-ready : goal.returns-in-Ok-clause-ready
returns-in-Ok-clause-ready g c = ready_after_read _ _ c.args.a c.args.width c.in-Ok.ensures.after c.requires.ready

pub returns-in-Err-clause-there : goal.returns-in-Err-clause-there
returns-in-Err-clause-there g c = answer_there _ _ c.args.a c.args.width None c.in-Err.ensures.answer c.in-Err.ensures.after

pub returns-in-Err-clause-same : goal.returns-in-Err-clause-same
returns-in-Err-clause-same g c = λ _. absent_left _ _ c.args.a c.args.width None c.in-Err.ensures.answer c.in-Err.ensures.after refl

pub returns-in-Err-clause-ready : goal.returns-in-Err-clause-ready
returns-in-Err-clause-ready g c = ready_after_read _ _ c.args.a c.args.width c.in-Err.ensures.after c.requires.ready
