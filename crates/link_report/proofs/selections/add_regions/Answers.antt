use Rattle.std.proofs.Common.{sym, ◌∙◌, ◌||◌, flat_map}
use Rattle.std.specs.List.{list_any}
use Rattle.std.proofs.lemmas.List.{at_drop_all}
use Rattle.link_report.specs.Keys.{has_key, is_alike, selection_at}
use Rattle.link_report.proofs.SelectionLemmas.{lists_on}
use Rattle.link_report.proofs.selections.add_regions.Goals as goal

pub loop-region-preserved : goal.loop-region-preserved
loop-region-preserved c = λ q.
    lists_on (λ r. r.selections) (λ s. is_alike s (selection_at q)) c.args.regions.now c.loop-region.region-index c.region-item.result (has_key c.loop-region.keys q) (has_key c.add_selections.new.keys q) _ c.loop-region-test.true c.region-item.is
    (rw c.as_slice.ensures at c.in_ok-add_selections.ensures q) (c.loop-region.invariant q)

pub returns : goal.returns
returns c = λ q.
    sym (at_drop_all (λ rest. list_any (λ s. is_alike s (selection_at q)) (flat_map (λ r. r.selections) rest) || has_key c.loop-region.keys q) c.args.regions.now c.loop-region.region-index c.loop-region-test.false)
    ∙ c.loop-region.invariant q
