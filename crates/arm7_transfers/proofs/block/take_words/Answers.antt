use Rattle.std.proofs.Common.{◌≡◌, ℕ, List, [], false, length, arith, ap, sym, refl}
use Rattle.arm7_bus.proofs.PartLemmas.{byte_lists, four_count}
use Rattle.arm7_transfers.specs.BlockAccesses.{drawn}
use Rattle.arm7_transfers.proofs.DrawnLemmas.{four_drawn}
use Rattle.arm7_transfers.proofs.block.take_words.Goals as goal

pub take_four-second-requires-clause-room : goal.take_four-second-requires-clause-room
take_four-second-requires-clause-room c = omega (arith, four_count 0 4 8 12 4 c.args.list refl refl refl, c.requires.room)

pub take_four-third-requires-clause-room : goal.take_four-third-requires-clause-room
take_four-third-requires-clause-room c =
    omega (arith, four_count 0 4 8 12 4 c.args.list refl refl refl, c.requires.room, c.take_four-second.ensures.behind)

pub take_four-fourth-requires-clause-room : goal.take_four-fourth-requires-clause-room
take_four-fourth-requires-clause-room c =
    omega (arith, four_count 0 4 8 12 4 c.args.list refl refl refl, c.requires.room, c.take_four-second.ensures.behind, c.take_four-third.ensures.behind)

pub take_four-requires-clause-room : goal.take_four-requires-clause-room
take_four-requires-clause-room c =
    omega (arith, four_count 0 4 8 12 4 c.args.list refl refl refl, c.requires.room, c.take_four-second.ensures.behind, c.take_four-third.ensures.behind, c.take_four-fourth.ensures.behind)

pub returns : goal.returns
returns c =
    four_drawn 0 4 8 12 4 c.args.list 0 c.take_four-second.result c.take_four-third.result c.take_four-fourth.result
    c.args.core.now c.take_four-second.new.core c.take_four-third.new.core c.take_four-fourth.new.core c.take_four.new.core c.args.bytes.now refl refl refl
    c.take_four-second.ensures.behind c.take_four-third.ensures.behind c.take_four-fourth.ensures.behind
    c.take_four-second.ensures.core c.take_four-third.ensures.core c.take_four-fourth.ensures.core c.take_four.ensures.core

pub returns-then-list-lt256 : goal.returns-then-list-lt256
returns-then-list-lt256 c =
    let none = byte_lists c.args.list c.if-list-lt256.true in
    let core = c.take_four-third.new.core in
    let here = λ (ks : List ℕ) (is : ks ≡ []). ap (λ (js : List ℕ). drawn false js c.take_four-third.result core c.args.bytes.now) (sym is) in
    four_drawn 0 4 8 12 4 c.args.list 0 c.take_four-second.result c.take_four-third.result c.take_four-third.result
    c.args.core.now c.take_four-second.new.core core core core c.args.bytes.now refl refl refl
    c.take_four-second.ensures.behind c.take_four-third.ensures.behind (omega (arith, ap length none.0))
    c.take_four-second.ensures.core c.take_four-third.ensures.core (here _ none.0) (here _ none.1)
