use Rattle.link_report.specs.Selections.{has_taken, unused_text}
use Rattle.link_report.proofs.SelectionLemmas.{texts_end, texts_on}
use Rattle.link_report.proofs.selections.push_region.Goals as goal

pub loop-selection-preserved : goal.loop-selection-preserved
loop-selection-preserved c = λ offers items h.
    texts_on (unused_text (has_taken offers items) c.args.region.now) c.args.selections.now c.loop-selection.selection-index c.selection-item.result c.loop-selection.out.items c.push_unused.new.out.items _ c.loop-selection-test.true c.selection-item.is
    (c.in_ok-push_unused.ensures offers items h) (c.loop-selection.invariant offers items h)

pub returns : goal.returns
returns c = λ offers items h.
    texts_end (unused_text (has_taken offers items) c.args.region.now) c.args.selections.now c.loop-selection.selection-index c.loop-selection.out.items _ c.loop-selection-test.false (c.loop-selection.invariant offers items h)
