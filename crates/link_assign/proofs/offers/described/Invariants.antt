use Rattle.std.proofs.Common.{◌≡◌, ◌++◌, ◌+◌, map, drop, length}
use Rattle.std.specs.List.{flat_map}
use Rattle.place_model.specs.Assignment.{offers_from}
use Rattle.link_assign.specs.Shown.{shown_offer}
use Rattle.link_assign.proofs.offers.described.Given as goal

abbrev pub invariant-loop-load : goal.invariant-loop-load
invariant-loop-load l = record {
  offers : map shown_offer l.offers.items ++ offers_from l.count (flat_map (λ load. load.regions) (drop l.load-index l.loads)) ≡ offers_from 0 (flat_map (λ load. load.regions) l.loads);
  count : l.count + length (flat_map (λ load. load.regions) (drop l.load-index l.loads)) ≡ length (flat_map (λ load. load.regions) l.loads);
}
