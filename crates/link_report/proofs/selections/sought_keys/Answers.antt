use Rattle.std.proofs.Common.{sym, ◌∙◌, ap, ◌||◌, flat_map, Bool, List}
use Rattle.std.specs.List.{list_any}
use Rattle.std.proofs.lemmas.List.{at_drop_all}
use Rattle.place_model.specs.declared.scatter.Selection.{Selection}
use Rattle.link_report.specs.Keys.{has_key, is_alike, selection_at}
use Rattle.link_report.proofs.SelectionLemmas.{lists_on, offers_any, or_false, selections_of_loads}
use Rattle.link_report.proofs.selections.sought_keys.Goals as goal

pub loop-load-preserved : goal.loop-load-preserved
loop-load-preserved c = λ q.
    lists_on (λ d. flat_map (λ r. r.selections) d.regions) (λ s. is_alike s (selection_at q)) c.args.loads.now c.loop-load.load-index c.load-item.result (has_key c.loop-load.keys q) (has_key c.add_regions.new.keys q) _ c.loop-load-test.true c.load-item.is
    (rw c.as_slice.ensures at c.in_ok-add_regions.ensures q) (c.loop-load.invariant q)

pub returns : goal.returns
returns c = λ q.
    let p : Selection → Bool = λ s. is_alike s (selection_at q) in
    sym (at_drop_all (λ rest. list_any p (flat_map (λ d. flat_map (λ r. r.selections) d.regions) rest) || has_key c.loop-load.keys q) c.args.loads.now c.loop-load.load-index c.loop-load-test.false)
    ∙ c.loop-load.invariant q ∙ ap (λ (ss : List Selection). list_any p ss) (selections_of_loads c.args.loads.now) ∙ sym (offers_any 0 p (flat_map (λ d. d.regions) c.args.loads.now))
