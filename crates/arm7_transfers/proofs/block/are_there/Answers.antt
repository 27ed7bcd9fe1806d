use Rattle.arm7_transfers.proofs.SpanLemmas.{span-there}
use Rattle.arm7_transfers.proofs.block.are_there.Goals as goal

pub returns-then-last_has : goal.returns-then-last_has
returns-then-last_has g c = span-there _ c.args.list c.args.a c.requires.ready c.requires.aligned c.if-a-le4294967232.true (c.last_has.ensures c.if-last_has.true)
