use Rattle.std.proofs.Common.{sym, ◌∙◌, ◌||◌}
use Rattle.std.proofs.lemmas.List.{at_drop_all}
use Rattle.link_items.specs.LinkedItems.{items_of}
use Rattle.link_report.specs.Keys.{has_key, selection_at}
use Rattle.link_report.specs.Selections.{has_taken}
use Rattle.link_report.proofs.SelectionLemmas.{areas_on}
use Rattle.link_report.proofs.selections.add_areas.Goals as goal

pub loop-area-preserved : goal.loop-area-preserved
loop-area-preserved c = λ offers h q object.
    areas_on offers (selection_at q) object c.args.home.now c.args.areas.now c.loop-area.area-index c.area-item.result (has_key c.loop-area.taken q) (has_key c.add_best.new.taken q) _ c.loop-area-test.true c.area-item.is
    (c.in_ok-add_best.ensures offers h q object c.loop-area.area-index) (c.loop-area.invariant offers h q object)

pub returns : goal.returns
returns c = λ offers h q object.
    sym (at_drop_all (λ rest. has_taken offers (items_of object c.args.home.now c.loop-area.area-index rest) (selection_at q) || has_key c.loop-area.taken q) c.args.areas.now c.loop-area.area-index c.loop-area-test.false)
    ∙ c.loop-area.invariant offers h q object
