use Rattle.std.proofs.Common.{List, subst}
use Rattle.std.specs.Option.{option_copied}
use Rattle.chunk_file.specs.Reading.{Gives}
use Rattle.link_model.specs.declared.selection.Named.{Named}
use Rattle.aof_object.specs.declared.records.Object.{Object}
use Rattle.link_model.proofs.LinkedOnce.{linked_once}
use Rattle.link_select.specs.Selection.{selection_of}
use Rattle.link_select.proofs.SelectionLemmas.{selects, links}
use Rattle.link_select.proofs.LawLemmas.{selected_once}
use Rattle.link_select.proofs.MeaningLemmas.{meanings_exist}
use Rattle.link_select.proofs.selecting.select.Goals as goal

pub returns-clause-linked : goal.returns-clause-linked
returns-clause-linked c =
    links c.args.objects.items c.args.archives.items (option_copied c.args.regions) c.in_ok-chosen.chosen.items c.link.result c.in_ok-chosen.ensures c.link.ensures

pub returns-clause-exact : goal.returns-clause-exact
returns-clause-exact c =
    selects c.args.objects.items c.args.archives.items (option_copied c.args.regions) c.in_ok-chosen.chosen.items c.link.result c.in_ok-chosen.ensures c.link.ensures

pub returns-clause-only : goal.returns-clause-only
returns-clause-only c = λ os h.
    subst (λ (o : List (Named Object)). Gives c.link.result (selection_of (option_copied c.args.regions) o))
    (linked_once c.args.objects.items c.args.archives.items c.in_ok-chosen.chosen.items os c.in_ok-chosen.ensures h) c.link.ensures

pub returns-clause-one_definition : goal.returns-clause-one_definition
returns-clause-one_definition c = selected_once (option_copied c.args.regions) c.in_ok-chosen.chosen.items c.link.result c.link.ensures

pub returns-clause-meanings : goal.returns-clause-meanings
returns-clause-meanings c = meanings_exist (option_copied c.args.regions) c.in_ok-chosen.chosen.items c.link.result c.link.ensures
