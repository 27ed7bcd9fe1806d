use Rattle.std.proofs.Common.{◌≡◌, ◌++◌, ◌+◌, map, drop}
use Rattle.place_model.specs.Assignment.{offers_from}
use Rattle.link_assign.specs.Shown.{shown_offer}
use Rattle.link_assign.proofs.offers.push_regions.Given as goal

abbrev pub invariant-loop-i : goal.invariant-loop-i
invariant-loop-i l = map shown_offer l.offers.items ++ offers_from (l.first + l.i) (drop l.i l.regions) ≡ map shown_offer l.initial.offers.items ++ offers_from l.first l.regions
