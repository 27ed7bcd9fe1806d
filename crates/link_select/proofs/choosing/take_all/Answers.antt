use Rattle.std.proofs.Common.{ℕ, List, [], ◌∷◌, take, sym, subst, get_or}
use Rattle.std.proofs.lemmas.List.{take_all}
use Rattle.link_select.specs.Search.{Takes}
use Rattle.link_select.proofs.ListLemmas.{take_number}
use Rattle.link_select.proofs.MarkLemmas.{takes_both, takes_none}
use Rattle.link_select.proofs.choosing.take_all.Goals as goal

pub loop-number-init : goal.loop-number-init
loop-number-init c = takes_none c.args.marks.now.items c.args.waiting.now.items

pub loop-number-preserved : goal.loop-number-preserved
loop-number-preserved c =
    subst (λ (l : List ℕ). Takes c.args.marks.now.items c.take_one.new.marks.items c.args.waiting.now.items c.take_one.new.waiting.items l) (sym (take_number c.args.numbers.now c.loop-number.number-index c.loop-number-test.true))
    (takes_both c.args.marks.now.items c.loop-number.marks.items c.take_one.new.marks.items c.args.waiting.now.items c.loop-number.waiting.items c.take_one.new.waiting.items
    (take c.loop-number.number-index c.args.numbers.now) (get_or c.args.numbers.now c.loop-number.number-index 0 ∷ []) c.loop-number.invariant c.in_ok-take_one.ensures)

pub returns : goal.returns
returns c =
    subst (λ (l : List ℕ). Takes c.args.marks.now.items c.loop-number.marks.items c.args.waiting.now.items c.loop-number.waiting.items l)
    (take_all c.loop-number.number-index c.args.numbers.now c.loop-number-test.false) c.loop-number.invariant
