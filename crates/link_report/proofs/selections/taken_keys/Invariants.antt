use Rattle.std.proofs.Common.{◌≡◌, ◌||◌, List, drop}
use Rattle.place_model.specs.Assignment.{Offer}
use Rattle.link_items.specs.LinkedItems.{items_from}
use Rattle.link_report.specs.declared.selections.Key.{Key}
use Rattle.link_report.specs.Keys.{AreSought, has_key, selection_at}
use Rattle.link_report.specs.Selections.{has_taken}
use Rattle.link_report.proofs.selections.taken_keys.Given as goal

abbrev pub invariant-loop-object : goal.invariant-loop-object
invariant-loop-object l = (offers : List Offer) → AreSought offers l.keys → (q : Key) → (has_taken offers (items_from l.object-index (drop l.object-index l.objects)) (selection_at q) || has_key l.taken q) ≡ has_taken offers (items_from 0 l.objects) (selection_at q)
