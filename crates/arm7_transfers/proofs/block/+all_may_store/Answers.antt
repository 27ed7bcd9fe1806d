use Rattle.std.proofs.Common.{arith}
use Rattle.arm7_transfers.proofs.BlockSteps.{may_refused_at, may_rest_at}
use Rattle.arm7_transfers.proofs.block.+all_may_store.Goals as goal

pub returns-then-not-may_store : goal.returns-then-not-may_store
returns-then-not-may_store g t c =
    may_refused_at _ c.args.k c.args.list c.args.a c.lists.result c.may_store.result c.requires.ready c.requires.aligned (omega arith)
    c.lists.ensures c.if-not-lists.false c.may_store.ensures c.if-not-may_store.true

pub returns : goal.returns
returns g t c =
    may_rest_at _ c.args.k c.args.list c.args.a c.next_word.result c.lists.result c.may_store.result c.all_may_store-2.result c.requires.ready c.requires.aligned (omega arith)
    c.lists.ensures c.if-not-lists.false c.may_store.ensures c.if-not-may_store.false c.next_word.ensures c.all_may_store-2.ensures
