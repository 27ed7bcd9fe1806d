use Rattle.arm7_transfers.proofs.SpanLemmas.{span-storable}
use Rattle.arm7_transfers.proofs.block.are_storable.Goals as goal

pub returns-then-last_takes : goal.returns-then-last_takes
returns-then-last_takes g c =
    span-storable _ c.args.list c.args.a c.requires.ready c.requires.aligned c.if-a-le4294967232.true (c.last_takes.ensures.has c.if-last_takes.true)
    (c.last_takes.ensures.free c.if-last_takes.true)
