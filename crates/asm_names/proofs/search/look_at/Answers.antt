use Rattle.std.proofs.Common.{◌≡◌, ◌<◌, Option, Some, None, List, length, drop, refl, sym, ap, ◌∙◌, subst}
use Rattle.std.specs.Prelude.{OnOk}
use Rattle.asm_model.specs.declared.exprs.ExprItem.{ExprItem}
use Rattle.asm_names.specs.declared.search.Unknown.{Unknown}
use Rattle.asm_names.specs.Equals.{pairs_of}
use Rattle.asm_names.specs.Search.{unknown_from, items_at, IsLonger, Looked}
use Rattle.asm_names.proofs.CallLemmas.{items_there, unknown_below, ok_more}
use Rattle.asm_names.proofs.search.look_at.Goals as goal

pub wait-requires : goal.wait-requires
wait-requires c =
    subst (λ (n : _). c.in-Some.unknown.number < n) (sym c.requires.lists)
    (unknown_below c.args.index.now c.args.known.now (length c.args.known.now) c.args.waiting.item (drop c.args.waiting.item c.as_slice-items.result.now)
    c.in-Some.unknown c.requires.within
    (sym c.next_unknown.ensures ∙ c.in-Some.is))

pub returns-in_ok-push-in-None : goal.returns-in_ok-push-in-None
returns-in_ok-push-in-None c =
    let items : items_at (pairs_of c.args.equals.now) c.args.waiting.equal ≡ c.as_slice-items.result.now =
    items_there c.args.equals.now c.args.waiting.equal c.index-equals-waiting.result c.requires.waiting.within ∙ sym c.as_slice-items.ensures in
    let found : unknown_from c.args.index.now c.args.known.now c.args.waiting.item
    (drop c.args.waiting.item (items_at (pairs_of c.args.equals.now) c.args.waiting.equal)) ≡ None =
    ap (λ (l : List ExprItem). unknown_from c.args.index.now c.args.known.now c.args.waiting.item (drop c.args.waiting.item l)) items
    ∙ sym c.next_unknown.ensures ∙ c.in-None.is in
    subst (λ (o : Option Unknown). Looked o c.args.waiting.equal c.args.waits.now.items c.args.waits.now.items c.args.places.now.items c.push.new.self.items)
    (sym found)
    (refl, c.in_ok-push-in-None.ensures.items)

pub returns-in-Some : goal.returns-in-Some
returns-in-Some c =
    let items : items_at (pairs_of c.args.equals.now) c.args.waiting.equal ≡ c.as_slice-items.result.now =
    items_there c.args.equals.now c.args.waiting.equal c.index-equals-waiting.result c.requires.waiting.within ∙ sym c.as_slice-items.ensures in
    let found : unknown_from c.args.index.now c.args.known.now c.args.waiting.item
    (drop c.args.waiting.item (items_at (pairs_of c.args.equals.now) c.args.waiting.equal)) ≡ Some c.in-Some.unknown =
    ap (λ (l : List ExprItem). unknown_from c.args.index.now c.args.known.now c.args.waiting.item (drop c.args.waiting.item l)) items
    ∙ sym c.next_unknown.ensures ∙ c.in-Some.is in
    subst (λ (o : Option Unknown). OnOk c.wait.result (Looked o c.args.waiting.equal c.args.waits.now.items c.wait.new.waits.items c.args.places.now.items
    c.args.places.now.items)) (sym found)
    (ok_more c.wait.result (IsLonger c.in-Some.unknown.number (record { equal = c.args.waiting.equal; item = c.in-Some.unknown.item }) c.args.waits.now.items
    c.wait.new.waits.items)
    (Looked (Some c.in-Some.unknown) c.args.waiting.equal c.args.waits.now.items c.wait.new.waits.items c.args.places.now.items c.args.places.now.items)
    (λ l. (l, refl)) c.wait.ensures)
