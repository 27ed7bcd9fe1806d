use Rattle.std.proofs.Common.{◌≡◌, ◌||◌, drop}
use Rattle.std.specs.List.{list_any}
use Rattle.link_report.specs.declared.selections.Key.{Key}
use Rattle.link_report.specs.Keys.{has_key, is_alike, selection_at}
use Rattle.link_report.proofs.selections.add_selections.Given as goal

abbrev pub invariant-loop-selection : goal.invariant-loop-selection
invariant-loop-selection l = (q : Key) → (list_any (λ s. is_alike s (selection_at q)) (drop l.selection-index l.selections) || has_key l.keys q) ≡ (list_any (λ s. is_alike s (selection_at q)) l.selections || has_key l.fn.keys q)
