use Rattle.arm7_transfers.proofs.AccessLemmas.{judged, refused}
use Rattle.arm7_transfers.proofs.ReadyLemmas.{ready_after_write}
use Rattle.arm7_transfers.proofs.access.store.Goals as goal

pub returns-clause-judged : goal.returns-clause-judged
returns-clause-judged g c = judged _ c.args.a c.args.width c.write.result c.requires.ready c.requires.aligned c.write.ensures.answer

pub returns-clause-same : goal.returns-clause-same
returns-clause-same g c = refused _ _ c.args.a c.args.width c.low_bytes.result c.write.result c.write.ensures.after c.write.ensures.answer

pub returns-clause-ready : goal.returns-clause-ready
returns-clause-ready g c = ready_after_write _ _ c.args.a c.args.width c.low_bytes.result c.write.ensures.after c.requires.ready
