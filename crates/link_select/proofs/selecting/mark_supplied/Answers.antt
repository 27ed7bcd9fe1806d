use Rattle.std.proofs.Common.{◌≡◌, Bool, List, Vec, Global, length, ap, ◌∙◌}
use Rattle.link_model.specs.Members.{members_of, objects_in}
use Rattle.link_model.specs.Chosen.{AreChosen, IsLeast}
use Rattle.link_select.specs.Search.{marked, supply_of}
use Rattle.link_select.specs.declared.choosing.Supply.{Supply}
use Rattle.link_select.specs.declared.members.MemberPlace.{MemberPlace}
use Rattle.link_select.proofs.PlaceLemmas.{length_from}
use Rattle.link_select.proofs.SelectionLemmas.{are_chosen, if_ok}
use Rattle.link_select.proofs.selecting.mark_supplied.Goals as goal

pub returns-clause-size : goal.returns-clause-size
returns-clause-size c =
    if_ok (λ (v : Vec Bool Global). length v.items ≡ length c.args.places.now) (λ v. length v.items ≡ length (members_of c.args.archives.now))
    (λ v size. size ∙ ap (λ (l : List MemberPlace). length l) c.requires.places ∙ length_from 0 c.args.archives.now) c.choose.result c.choose.ensures.size

pub returns-clause-chosen : goal.returns-clause-chosen
returns-clause-chosen c =
    let supply : Supply = record { defined = c.index_objects.new.index; offered = c.index_members.new.index } in
    if_ok (λ (v : Vec Bool Global). IsLeast (supply_of supply) (objects_in c.args.objects.now) (objects_in (members_of c.args.archives.now)) (marked v.items))
    (λ v. AreChosen (objects_in c.args.objects.now) (objects_in (members_of c.args.archives.now)) (marked v.items))
    (λ v least. are_chosen supply (objects_in c.args.objects.now) (objects_in (members_of c.args.archives.now)) (marked v.items) c.in_ok-index_objects.ensures c.in_ok-index_members.ensures least)
    c.choose.result c.choose.ensures.least
