use Rattle.std.proofs.Common.{◌≡◌, ◌++◌, List, drop, flat_map}
use Rattle.place_model.specs.Assignment.{Offer}
use Rattle.place_model.specs.Items.{Item}
use Rattle.link_report.specs.Keys.{AreTaken}
use Rattle.link_report.specs.Selections.{has_taken, region_unused}
use Rattle.link_report.proofs.selections.push_load.Given as goal

abbrev pub invariant-loop-region : goal.invariant-loop-region
invariant-loop-region l = (offers : List Offer) (items : List Item) → AreTaken offers items l.taken → l.out.items ++ flat_map (region_unused (has_taken offers items)) (drop l.region-index l.regions) ≡ l.fn.out.items ++ flat_map (region_unused (has_taken offers items)) l.regions
