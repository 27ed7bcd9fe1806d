use Rattle.std.proofs.Common.{arith}
use Rattle.arm7_transfers.proofs.BlockSteps.{there_absent_at, there_rest_at}
use Rattle.arm7_transfers.proofs.block.+all_there.Goals as goal

pub returns-then-not-is_there : goal.returns-then-not-is_there
returns-then-not-is_there g t c =
    there_absent_at _ c.args.k c.args.list c.args.a c.lists.result c.is_there.result c.requires.ready c.requires.aligned (omega arith)
    c.lists.ensures c.if-not-lists.false c.is_there.ensures c.if-not-is_there.true

pub returns : goal.returns
returns g t c =
    there_rest_at _ c.args.k c.args.list c.args.a c.next_word.result c.lists.result c.is_there.result c.all_there-2.result c.requires.ready c.requires.aligned (omega arith)
    c.lists.ensures c.if-not-lists.false c.is_there.ensures c.if-not-is_there.false c.next_word.ensures c.all_there-2.ensures
