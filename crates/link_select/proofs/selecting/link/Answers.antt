use Rattle.std.proofs.Common.{◌≡◌, List, Ok, ap, subst, ◌∙◌}
use Rattle.std.specs.Option.{option_copied}
use Rattle.aof_object.specs.declared.records.Object.{Object}
use Rattle.link_model.specs.declared.selection.Named.{Named}
use Rattle.link_model.specs.Definitions.{definitions_from}
use Rattle.link_model.specs.Members.{objects_in}
use Rattle.link_select.specs.Selection.{judged}
use Rattle.link_select.proofs.SelectionLemmas.{linked_of}
use Rattle.link_select.proofs.selecting.link.Goals as goal

pub returns : goal.returns
returns c =
    linked_of (option_copied c.args.regions) c.args.objects.items c.from_vec.result c.in_ok-definitions.definitions c.in_ok-entry.entry
    (subst (λ (os : List (Named Object)). judged (option_copied c.args.regions) os ≡ Ok c.in_ok-entry.entry) c.as_slice.ensures.value c.in_ok-entry.ensures) c.from_vec.ensures
    (c.in_ok-definitions.ensures ∙ ap (λ (os : List (Named Object)). definitions_from 0 (objects_in os)) c.as_slice-2.ensures.value)
