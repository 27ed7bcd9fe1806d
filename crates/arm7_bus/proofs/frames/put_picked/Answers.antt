use Rattle.std.proofs.Common.{arith, refl}
use Rattle.arm7_bus.proofs.PartLemmas.{four_count, four_picked, two_picked}
use Rattle.arm7_bus.proofs.frames.put_picked.Goals as goal

pub put_four-second-requires-clause-room : goal.put_four-second-requires-clause-room
put_four-second-requires-clause-room c = omega (arith, four_count 0 4 8 12 4 c.args.list refl refl refl, c.requires.room)

pub put_four-third-requires-clause-room : goal.put_four-third-requires-clause-room
put_four-third-requires-clause-room c =
    omega (arith, four_count 0 4 8 12 4 c.args.list refl refl refl, c.requires.room, c.put_four-second.ensures.behind, c.put_four-second.ensures.count)

pub put_four-fourth-requires-clause-room : goal.put_four-fourth-requires-clause-room
put_four-fourth-requires-clause-room c =
    omega (
      arith,
      four_count 0 4 8 12 4 c.args.list refl refl refl,
      c.requires.room,
      c.put_four-second.ensures.behind,
      c.put_four-second.ensures.count,
      c.put_four-third.ensures.behind,
      c.put_four-third.ensures.count,
    )

pub put_four-requires-clause-room : goal.put_four-requires-clause-room
put_four-requires-clause-room c =
    omega (
      arith,
      four_count 0 4 8 12 4 c.args.list refl refl refl,
      c.requires.room,
      c.put_four-second.ensures.behind,
      c.put_four-second.ensures.count,
      c.put_four-third.ensures.behind,
      c.put_four-third.ensures.count,
      c.put_four-fourth.ensures.behind,
      c.put_four-fourth.ensures.count,
    )

pub returns-clause-bytes : goal.returns-clause-bytes
returns-clause-bytes c =
    four_picked c.args.words.now c.args.block.now.cells.bytes c.put_four-second.new.block.cells.bytes c.put_four-third.new.block.cells.bytes c.put_four-fourth.new.block.cells.bytes c.put_four.new.block.cells.bytes
    0 4 8 12 4 c.args.list c.args.at c.put_four-second.result c.put_four-third.result c.put_four-fourth.result refl refl refl
    c.requires.room c.put_four-second.ensures.count c.put_four-third.ensures.count
    c.put_four-second.ensures.behind c.put_four-third.ensures.behind c.put_four-fourth.ensures.behind
    c.put_four-second.ensures.bytes c.put_four-third.ensures.bytes c.put_four-fourth.ensures.bytes c.put_four.ensures.bytes

pub returns-then-list-lt256-clause-bytes : goal.returns-then-list-lt256-clause-bytes
returns-then-list-lt256-clause-bytes c =
    two_picked c.args.words.now c.args.block.now.cells.bytes c.put_four-second.new.block.cells.bytes c.put_four-third.new.block.cells.bytes c.args.list c.args.at c.put_four-second.result c.put_four-third.result
    c.if-list-lt256.true c.requires.room c.put_four-second.ensures.count c.put_four-third.ensures.count c.put_four-second.ensures.behind c.put_four-third.ensures.behind
    c.put_four-second.ensures.bytes c.put_four-third.ensures.bytes
