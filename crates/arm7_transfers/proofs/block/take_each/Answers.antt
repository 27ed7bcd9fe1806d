use Rattle.std.proofs.Common.{◌+◌, arith, refl}
use Rattle.arm7_bus.proofs.PartLemmas.{four_behind}
use Rattle.arm7_transfers.proofs.DrawnLemmas.{four_drawn}
use Rattle.arm7_transfers.proofs.block.take_each.Goals as goal

pub returns-clause-behind : goal.returns-clause-behind
returns-clause-behind c =
    let k = c.args.k in
    four_behind k (k + 1) (k + 2) (k + 3) 1 c.args.list c.args.at c.take_one-second.result c.take_one-third.result c.take_one-fourth.result c.take_one.result refl (omega arith) (omega arith)
    c.take_one-second.ensures.behind c.take_one-third.ensures.behind c.take_one-fourth.ensures.behind c.take_one.ensures.behind

pub returns-clause-core : goal.returns-clause-core
returns-clause-core c =
    let k = c.args.k in
    four_drawn k (k + 1) (k + 2) (k + 3) 1 c.args.list c.args.at c.take_one-second.result c.take_one-third.result c.take_one-fourth.result
    c.args.core.now c.take_one-second.new.core c.take_one-third.new.core c.take_one-fourth.new.core c.take_one.new.core c.args.bytes.now refl (omega arith) (omega arith)
    c.take_one-second.ensures.behind c.take_one-third.ensures.behind c.take_one-fourth.ensures.behind
    c.take_one-second.ensures.core c.take_one-third.ensures.core c.take_one-fourth.ensures.core c.take_one.ensures.core
