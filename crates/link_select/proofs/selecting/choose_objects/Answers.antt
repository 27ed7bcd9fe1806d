use Rattle.std.proofs.Common.{◌≡◌, Bool, List, ◌++◌, length, subst, ap, ◌∙◌, Vec, Global}
use Rattle.aof_object.specs.declared.records.Object.{Object}
use Rattle.alf_archive.specs.declared.records.Archive.{Archive}
use Rattle.link_model.specs.declared.selection.Named.{Named}
use Rattle.link_model.specs.Members.{members_of, objects_in}
use Rattle.link_model.specs.Chosen.{AreChosen, AreLinked, taken}
use Rattle.link_select.specs.Search.{marked}
use Rattle.link_select.proofs.SelectionLemmas.{if_ok}
use Rattle.link_select.proofs.selecting.choose_objects.Goals as goal

pub linked_objects-requires : goal.linked_objects-requires
linked_objects-requires c =
    ap (λ (l : List Bool). length l) c.as_slice-3.ensures.value ∙ c.in_ok-marks.ensures.size ∙ ap (λ (l : List (Named Archive)). length (members_of l)) c.as_slice-2.ensures.value

pub returns : goal.returns
returns c =
    let marks : List Bool = c.in_ok-marks.marks.items in
    let by_libraries : AreChosen (objects_in c.as_slice.result.now) (objects_in (members_of c.args.archives.items)) (marked marks) =
    subst (λ (l : List (Named Archive)). AreChosen (objects_in c.as_slice.result.now) (objects_in (members_of l)) (marked marks)) c.as_slice-2.ensures.value c.in_ok-marks.ensures.chosen in
    let chosen : AreChosen (objects_in c.args.objects.items) (objects_in (members_of c.args.archives.items)) (marked marks) =
    subst (λ (l : List (Named Object)). AreChosen (objects_in l) (objects_in (members_of c.args.archives.items)) (marked marks)) c.as_slice.ensures.value by_libraries in
    if_ok (λ (v : Vec (Named Object) Global). v.items ≡ c.args.objects.items ++ taken (marked c.as_slice-3.result.now) 0 (members_of c.args.archives.items))
    (λ v. AreLinked c.args.objects.items c.args.archives.items v.items)
    (λ v e. record {
      chosen = marked marks;
      are_chosen = chosen;
      in_order = e ∙ ap (λ (m : List Bool). c.args.objects.items ++ taken (marked m) 0 (members_of c.args.archives.items)) c.as_slice-3.ensures.value;
    })
    c.linked_objects.result c.linked_objects.ensures
