use Rattle.std.proofs.Common.{◌≡◌, ◌||◌, ℕ, List, drop}
use Rattle.place_model.specs.Assignment.{Offer}
use Rattle.link_items.specs.LinkedItems.{items_of}
use Rattle.link_report.specs.declared.selections.Key.{Key}
use Rattle.link_report.specs.Keys.{AreSought, has_key, selection_at}
use Rattle.link_report.specs.Selections.{has_taken}
use Rattle.link_report.proofs.selections.add_areas.Given as goal

abbrev pub invariant-loop-area : goal.invariant-loop-area
invariant-loop-area l = (offers : List Offer) → AreSought offers l.keys → (q : Key) (object : ℕ) → (has_taken offers (items_of object l.home l.area-index (drop l.area-index l.areas)) (selection_at q) || has_key l.taken q) ≡ (has_taken offers (items_of object l.home 0 l.areas) (selection_at q) || has_key l.fn.taken q)
