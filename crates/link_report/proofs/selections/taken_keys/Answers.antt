use Rattle.std.proofs.Common.{sym, ◌∙◌, ◌||◌}
use Rattle.std.proofs.lemmas.List.{at_drop_all}
use Rattle.link_items.specs.LinkedItems.{items_from}
use Rattle.link_report.specs.Keys.{has_key, selection_at}
use Rattle.link_report.specs.Selections.{has_taken}
use Rattle.link_report.proofs.SelectionLemmas.{objects_on, or_false}
use Rattle.link_report.proofs.selections.taken_keys.Goals as goal

pub loop-object-preserved : goal.loop-object-preserved
loop-object-preserved c = λ offers h q.
    objects_on offers (selection_at q) c.args.objects.now c.loop-object.object-index c.object-item.result (has_key c.loop-object.taken q) (has_key c.add_areas.new.taken q) _ c.loop-object-test.true c.object-item.is
    (rw (c.as_slice-areas.ensures, c.as_slice.ensures) at c.in_ok-add_areas.ensures offers h q c.loop-object.object-index) (c.loop-object.invariant offers h q)

pub returns : goal.returns
returns c = λ offers h q.
    sym (at_drop_all (λ rest. has_taken offers (items_from c.loop-object.object-index rest) (selection_at q) || has_key c.loop-object.taken q) c.args.objects.now c.loop-object.object-index c.loop-object-test.false)
    ∙ c.loop-object.invariant offers h q
