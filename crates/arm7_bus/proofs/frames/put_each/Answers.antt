use Rattle.std.proofs.Common.{◌+◌, arith, refl}
use Rattle.arm7_bus.proofs.PartLemmas.{four_behind, four_picked}
use Rattle.arm7_bus.proofs.frames.put_each.Goals as goal

pub returns-clause-behind : goal.returns-clause-behind
returns-clause-behind c =
    let k = c.args.k in
    four_behind k (k + 1) (k + 2) (k + 3) 1 c.args.list c.args.at c.put_one-second.result c.put_one-third.result c.put_one-fourth.result c.put_one.result refl (omega arith) (omega arith)
    c.put_one-second.ensures.behind c.put_one-third.ensures.behind c.put_one-fourth.ensures.behind c.put_one.ensures.behind

pub returns-clause-bytes : goal.returns-clause-bytes
returns-clause-bytes c =
    let k = c.args.k in
    four_picked c.args.words.now c.args.block.now.cells.bytes c.put_one-second.new.block.cells.bytes c.put_one-third.new.block.cells.bytes c.put_one-fourth.new.block.cells.bytes c.put_one.new.block.cells.bytes
    k (k + 1) (k + 2) (k + 3) 1 c.args.list c.args.at c.put_one-second.result c.put_one-third.result c.put_one-fourth.result refl (omega arith) (omega arith)
    c.requires.room c.put_one-second.ensures.count c.put_one-third.ensures.count
    c.put_one-second.ensures.behind c.put_one-third.ensures.behind c.put_one-fourth.ensures.behind
    c.put_one-second.ensures.bytes c.put_one-third.ensures.bytes c.put_one-fourth.ensures.bytes c.put_one.ensures.bytes
