use Rattle.std.proofs.Common.{◌≡◌, ◌++◌, List, drop, flat_map}
use Rattle.place_model.specs.Assignment.{Offer}
use Rattle.place_model.specs.Items.{Item}
use Rattle.link_report.specs.Keys.{AreTaken}
use Rattle.link_report.specs.Selections.{has_taken, unused_text}
use Rattle.link_report.proofs.selections.push_region.Given as goal

abbrev pub invariant-loop-selection : goal.invariant-loop-selection
invariant-loop-selection l = (offers : List Offer) (items : List Item) → AreTaken offers items l.taken → l.out.items ++ flat_map (unused_text (has_taken offers items) l.region) (drop l.selection-index l.selections) ≡ l.fn.out.items ++ flat_map (unused_text (has_taken offers items) l.region) l.selections
