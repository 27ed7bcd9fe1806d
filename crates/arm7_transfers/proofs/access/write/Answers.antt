use Rattle.arm7_transfers.proofs.ReadyLemmas.{ready_after_write}
use Rattle.arm7_transfers.proofs.access.write.Goals as goal

pub returns-clause-ready : goal.returns-clause-ready
returns-clause-ready g c = ready_after_write _ _ c.args.a c.args.width c.low_bytes.result c.write-judged.ensures.after c.requires.ready
