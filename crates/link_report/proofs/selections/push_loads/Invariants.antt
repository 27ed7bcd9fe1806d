use Rattle.std.proofs.Common.{◌≡◌, ◌++◌, List, drop, flat_map}
use Rattle.place_model.specs.Assignment.{Offer}
use Rattle.place_model.specs.Items.{Item}
use Rattle.link_report.specs.Keys.{AreTaken}
use Rattle.link_report.specs.Selections.{has_taken, load_unused}
use Rattle.link_report.proofs.selections.push_loads.Given as goal

abbrev pub invariant-loop-load : goal.invariant-loop-load
invariant-loop-load l = (offers : List Offer) (items : List Item) → AreTaken offers items l.taken → l.out.items ++ flat_map (load_unused (has_taken offers items)) (drop l.load-index l.loads) ≡ l.fn.out.items ++ flat_map (load_unused (has_taken offers items)) l.loads
