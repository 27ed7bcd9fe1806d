use Rattle.std.proofs.Common.{ℕ, List, take, sym, ap, subst}
use Rattle.std.specs.List.{flat_map, filter_map}
use Rattle.std.proofs.lemmas.List.{take_all}
use Rattle.aof_object.specs.declared.records.Object.{Object}
use Rattle.link_model.specs.declared.selection.Named.{Named}
use Rattle.link_model.specs.Chosen.{asked, wanted}
use Rattle.link_select.specs.Search.{IsWithin, Takes, supply_of}
use Rattle.link_select.proofs.ListLemmas.{flat_take}
use Rattle.link_select.proofs.MarkLemmas.{takes_both, takes_none}
use Rattle.link_select.proofs.choosing.ask_all.Goals as goal

pub look_at-requires : goal.look_at-requires
look_at-requires c = subst (IsWithin (supply_of c.args.supply.now)) (sym c.loop-object.invariant.marks.size) c.requires

pub loop-object-init : goal.loop-object-init
loop-object-init c = takes_none c.args.marks.now.items c.args.waiting.now.items

pub loop-object-preserved : goal.loop-object-preserved
loop-object-preserved c =
    let f : Named Object → List ℕ = λ o. wanted (supply_of c.args.supply.now) o.value in
    subst (λ (l : List ℕ). Takes c.args.marks.now.items c.look_at.new.marks.items c.args.waiting.now.items c.look_at.new.waiting.items l)
    (sym (flat_take f c.args.objects.now c.loop-object.object-index c.object-item.result c.loop-object-test.true c.object-item.is))
    (takes_both c.args.marks.now.items c.loop-object.marks.items c.look_at.new.marks.items c.args.waiting.now.items c.loop-object.waiting.items c.look_at.new.waiting.items
    (flat_map f (take c.loop-object.object-index c.args.objects.now)) (f c.object-item.result) c.loop-object.invariant
    (subst (λ (l : List ℕ). Takes c.loop-object.marks.items c.look_at.new.marks.items c.loop-object.waiting.items c.look_at.new.waiting.items l)
    (ap (filter_map (asked (supply_of c.args.supply.now))) c.as_slice.ensures) c.in_ok-look_at.ensures))

pub returns : goal.returns
returns c =
    let f : Named Object → List ℕ = λ o. wanted (supply_of c.args.supply.now) o.value in
    subst (λ (l : List (Named Object)). Takes c.args.marks.now.items c.loop-object.marks.items c.args.waiting.now.items c.loop-object.waiting.items (flat_map f l))
    (take_all c.loop-object.object-index c.args.objects.now c.loop-object-test.false) c.loop-object.invariant
