use Rattle.link_report.specs.Selections.{has_taken, region_unused}
use Rattle.link_report.proofs.SelectionLemmas.{texts_end, texts_on}
use Rattle.link_report.proofs.selections.push_load.Goals as goal

pub loop-region-preserved : goal.loop-region-preserved
loop-region-preserved c = λ offers items h.
    texts_on (region_unused (has_taken offers items)) c.args.regions.now c.loop-region.region-index c.region-item.result c.loop-region.out.items c.push_region.new.out.items _ c.loop-region-test.true c.region-item.is
    (rw (c.as_slice-name.ensures, c.as_slice.ensures) at c.in_ok-push_region.ensures offers items h) (c.loop-region.invariant offers items h)

pub returns : goal.returns
returns c = λ offers items h.
    texts_end (region_unused (has_taken offers items)) c.args.regions.now c.loop-region.region-index c.loop-region.out.items _ c.loop-region-test.false (c.loop-region.invariant offers items h)
