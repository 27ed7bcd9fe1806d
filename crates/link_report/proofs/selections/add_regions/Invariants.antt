use Rattle.std.proofs.Common.{◌≡◌, ◌||◌, drop, flat_map}
use Rattle.std.specs.List.{list_any}
use Rattle.link_report.specs.declared.selections.Key.{Key}
use Rattle.link_report.specs.Keys.{has_key, is_alike, selection_at}
use Rattle.link_report.proofs.selections.add_regions.Given as goal

abbrev pub invariant-loop-region : goal.invariant-loop-region
invariant-loop-region l = (q : Key) → (list_any (λ s. is_alike s (selection_at q)) (flat_map (λ r. r.selections) (drop l.region-index l.regions)) || has_key l.keys q) ≡ (list_any (λ s. is_alike s (selection_at q)) (flat_map (λ r. r.selections) l.regions) || has_key l.fn.keys q)
