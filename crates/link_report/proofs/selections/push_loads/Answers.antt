use Rattle.link_report.specs.Selections.{has_taken, load_unused}
use Rattle.link_report.proofs.SelectionLemmas.{texts_end, texts_on}
use Rattle.link_report.proofs.selections.push_loads.Goals as goal

pub loop-load-preserved : goal.loop-load-preserved
loop-load-preserved c = λ offers items h.
    texts_on (load_unused (has_taken offers items)) c.args.loads.now c.loop-load.load-index c.load-item.result c.loop-load.out.items c.push_load.new.out.items _ c.loop-load-test.true c.load-item.is
    (rw c.as_slice.ensures at c.in_ok-push_load.ensures offers items h) (c.loop-load.invariant offers items h)

pub returns : goal.returns
returns c = λ offers items h.
    texts_end (load_unused (has_taken offers items)) c.args.loads.now c.loop-load.load-index c.loop-load.out.items _ c.loop-load-test.false (c.loop-load.invariant offers items h)
