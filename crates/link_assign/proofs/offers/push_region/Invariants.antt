use Rattle.std.proofs.Common.{◌≡◌, ◌++◌, map, drop}
use Rattle.link_assign.specs.Shown.{offered, shown_offer}
use Rattle.link_assign.proofs.offers.push_region.Given as goal

abbrev pub invariant-loop-selection : goal.invariant-loop-selection
invariant-loop-selection l = map shown_offer l.offers.items ++ offered l.region (drop l.selection-index l.selections) ≡ map shown_offer l.initial.offers.items ++ offered l.region l.selections
