use Rattle.std.proofs.Common.{List, ap, ◌++◌}
use Rattle.std.specs.Prelude.{codes}
use Rattle.aof_object.specs.declared.records.Object.{Object}
use Rattle.place_model.specs.Assignment.{description}
use Rattle.link_model.specs.declared.placing.Region.{Region}
use Rattle.link_model.specs.declared.selection.Named.{Named}
use Rattle.link_report.specs.Members.{members_text}
use Rattle.link_report.specs.Regions.{loads_text, regions_text}
use Rattle.link_report.specs.Reports.{entry_line, first_line}
use Rattle.link_report.specs.Selections.{selections_text}
use Rattle.link_report.specs.Symbols.{symbols_text}
use Rattle.link_report.proofs.TextLemmas.{same_text, then, then_in_turn}
use Rattle.link_report.proofs.report.push_lines.Goals as goal

pub returns : goal.returns
returns c =
    let k = c.args.kind.now in
    let l = c.args.linked.now in
    let p = c.args.placement.now in
    let begun = c.push.new.out.items in
    let at_loads = c.push_loads.new.out.items in
    let at_regions = c.push_regions.new.out.items in
    let at_symbols = c.push_symbols.new.out.items in
    let at_members = c.push_members.new.out.items in
    let at_selections = c.push_selections.new.out.items in
    let at_first = c.push_first.new.out.items in
    let at_entry = c.push_entry.new.out.items in
    let at_end = c.push-2.new.out.items in
    let loads = same_text begun at_loads (loads_text c.as_slice.result.now 0 (description k)) (loads_text p.regions 0 (description k)) c.in_ok-push_loads.ensures (ap (λ (rs : List Region). loads_text rs 0 (description k)) c.as_slice.ensures) in
    let regions = same_text at_loads at_regions (regions_text k c.as_slice-2.result.now p 0 p.regions) (regions_text k l.objects p 0 p.regions) c.in_ok-push_regions.ensures (ap (λ (os : List (Named Object)). regions_text k os p 0 p.regions) c.as_slice-2.ensures) in
    let selections = same_text at_members at_selections (selections_text k c.as_slice-3.result.now) (selections_text k l.objects) c.in_ok-push_selections.ensures (ap (λ (os : List (Named Object)). selections_text k os) c.as_slice-3.ensures) in
    let rest = then_in_turn begun at_loads at_regions at_symbols at_members at_selections at_first at_entry at_end
    (loads_text p.regions 0 (description k)) (regions_text k l.objects p 0 p.regions) (symbols_text l p) (members_text l c.args.given) (selections_text k l.objects) (first_line k l p) (entry_line l p) (codes "end\n")
    loads regions c.in_ok-push_symbols.ensures c.in_ok-push_members.ensures selections c.in_ok-push_first.ensures c.in_ok-push_entry.ensures c.in_ok-push-2.ensures in
    then c.args.out.now.items begun at_end (codes "armsdt report 1\n")
    (loads_text p.regions 0 (description k) ++ (regions_text k l.objects p 0 p.regions ++ (symbols_text l p ++ (members_text l c.args.given ++ (selections_text k l.objects ++ (first_line k l p ++ (entry_line l p ++ codes "end\n")))))))
    c.in_ok-push.ensures rest
