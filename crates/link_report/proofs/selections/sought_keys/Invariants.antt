use Rattle.std.proofs.Common.{◌≡◌, ◌||◌, drop, flat_map}
use Rattle.std.specs.List.{list_any}
use Rattle.link_report.specs.declared.selections.Key.{Key}
use Rattle.link_report.specs.Keys.{has_key, is_alike, selection_at}
use Rattle.link_report.proofs.selections.sought_keys.Given as goal

abbrev pub invariant-loop-load : goal.invariant-loop-load
invariant-loop-load l = (q : Key) → (list_any (λ s. is_alike s (selection_at q)) (flat_map (λ d. flat_map (λ r. r.selections) d.regions) (drop l.load-index l.loads)) || has_key l.keys q) ≡ list_any (λ s. is_alike s (selection_at q)) (flat_map (λ d. flat_map (λ r. r.selections) d.regions) l.loads)
