use Rattle.std.proofs.Common.{◌≡◌, ℕ, Bool, false, List, [], length, sym, ap, ◌∙◌, subst, arith}
use Rattle.std.specs.List.{flat_map, filter_map}
use Rattle.std.proofs.lemmas.List.Folds.{flat_map-map}
use Rattle.aof_object.specs.declared.records.Object.{Object}
use Rattle.link_model.specs.declared.selection.Named.{Named}
use Rattle.link_model.specs.Members.{members_of, objects_in}
use Rattle.link_model.specs.Chosen.{asked, wanted}
use Rattle.link_select.specs.declared.members.MemberPlace.{MemberPlace}
use Rattle.link_select.specs.Search.{supply_of, Takes}
use Rattle.link_select.proofs.PlaceLemmas.{objects_from, value_there}
use Rattle.link_select.proofs.SearchLemmas.{Searched, searched_start, searched_look, searched_end, waiting_within, fewer_left}
use Rattle.link_select.proofs.SelectionLemmas.{supply_within}
use Rattle.std.proofs.lemmas.List.{length-replicate, nil_from_length}
use Rattle.link_select.proofs.choosing.choose.Goals as goal

pub ask_all-requires : goal.ask_all-requires
ask_all-requires c =
    supply_within c.args.supply.now (objects_in (members_of c.args.archives.now)) (length c.in_ok-marks.marks.items) c.requires.offered
    (ap (λ (l : List Bool). length l) c.in_ok-marks.ensures ∙ length-replicate (length c.args.places.now) false
    ∙ ap (λ (l : List MemberPlace). length l) c.requires.places ∙ objects_from c.args.archives.now)

pub loop-number-init : goal.loop-number-init
loop-number-init c =
    let s = supply_of c.args.supply.now in
    let asks : flat_map (λ (o : Named Object). wanted s o.value) c.args.objects.now ≡ flat_map (wanted s) (objects_in c.args.objects.now) =
    sym (flat_map-map (wanted s) (λ (o : Named Object). o.value) c.args.objects.now) in
    searched_start s (objects_in c.args.objects.now) (objects_in (members_of c.args.archives.now)) (length c.args.places.now) c.ask_all.new.marks.items c.ask_all.new.waiting.items
    (ap (λ (l : List MemberPlace). length l) c.requires.places ∙ objects_from c.args.archives.now) (length-replicate (length c.args.places.now) false)
    (subst (λ (l : List Bool). Takes l c.ask_all.new.marks.items [] c.ask_all.new.waiting.items (flat_map (wanted s) (objects_in c.args.objects.now))) c.in_ok-marks.ensures
    (subst (λ (l : List ℕ). Takes c.in_ok-marks.marks.items c.ask_all.new.marks.items l c.ask_all.new.waiting.items (flat_map (wanted s) (objects_in c.args.objects.now))) c.new-waiting.ensures.items
    (subst (λ (l : List ℕ). Takes c.in_ok-marks.marks.items c.ask_all.new.marks.items c.new-waiting.result.items c.ask_all.new.waiting.items l) asks c.in_ok-ask_all.ensures)))

pub symbols_of_member-symbols-requires-clause-number : goal.symbols_of_member-symbols-requires-clause-number
symbols_of_member-symbols-requires-clause-number c =
    waiting_within (supply_of c.args.supply.now) (objects_in c.args.objects.now) (objects_in (members_of c.args.archives.now)) c.loop-number.marks.items c.loop-number.waiting.items c.pop.new.self.items c.in-Some.number
    (length c.args.places.now) c.loop-number.invariant c.in-Some.ensures.items (sym (ap (λ (l : List MemberPlace). length l) c.requires.places ∙ objects_from c.args.archives.now))

pub look_at-requires : goal.look_at-requires
look_at-requires c =
    supply_within c.args.supply.now (objects_in (members_of c.args.archives.now)) (length c.loop-number.marks.items) c.requires.offered c.loop-number.invariant.size

pub loop-number-preserved : goal.loop-number-preserved
loop-number-preserved c =
    searched_look (supply_of c.args.supply.now) (objects_in c.args.objects.now) (objects_in (members_of c.args.archives.now)) c.loop-number.marks.items c.look_at.new.marks.items c.loop-number.waiting.items c.pop.new.self.items c.look_at.new.waiting.items
    c.in-Some.number c.symbols_of_member-symbols.result.now c.loop-number.invariant c.in-Some.ensures.items
    (value_there (members_of c.args.archives.now) c.in-Some.number c.symbols_of_member-symbols.result.now c.symbols_of_member-symbols.ensures) c.in_ok-look_at.ensures

pub loop-number-smaller : goal.loop-number-smaller
loop-number-smaller c =
    fewer_left c.loop-number.marks.items c.look_at.new.marks.items c.loop-number.waiting.items c.pop.new.self.items c.look_at.new.waiting.items
    (filter_map (asked (supply_of c.args.supply.now)) c.symbols_of_member-symbols.result.now) c.in-Some.number c.in-Some.ensures.items c.in_ok-look_at.ensures

pub returns-clause-size : goal.returns-clause-size
returns-clause-size c =
    c.loop-number.invariant.size ∙ sym (ap (λ (l : List MemberPlace). length l) c.requires.places ∙ objects_from c.args.archives.now)

pub returns-clause-least : goal.returns-clause-least
returns-clause-least c =
    let full = c.loop-number.waiting.ok in
    let none : c.loop-number.waiting.items ≡ [] = nil_from_length c.loop-number.waiting.items (omega (arith, c.in_default.ensures.cases.0, full)) in
    searched_end (supply_of c.args.supply.now) (objects_in c.args.objects.now) (objects_in (members_of c.args.archives.now)) c.loop-number.marks.items
    (subst (λ (l : List ℕ). Searched (supply_of c.args.supply.now) (objects_in c.args.objects.now) (objects_in (members_of c.args.archives.now)) c.loop-number.marks.items l) none c.loop-number.invariant)
