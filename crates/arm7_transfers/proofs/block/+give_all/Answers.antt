use Rattle.std.proofs.Common.{arith}
use Rattle.arm7_transfers.proofs.BlockSteps.{gave_rest_at}
use Rattle.arm7_transfers.proofs.block.+give_all.Goals as goal

pub returns-clause-served : goal.returns-clause-served
returns-clause-served g t c =
    gave_rest_at c.args.user c.args.core.now c.args.k c.args.list c.args.a c.next_word.result c.listed_at-v.result c.lists.result _ _ _ (omega arith)
    c.lists.ensures c.if-not-lists.false c.listed_at-v.ensures c.write.ensures.after c.next_word.ensures c.give_all-2.ensures.served
