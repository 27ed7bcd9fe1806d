use Rattle.std.proofs.Common.{◌≡◌, ◌++◌, drop, map}
use Rattle.link_items.specs.LinkedItems.{region_veneer}
use Rattle.link_place.specs.Parts.{veneer_pieces}
use Rattle.link_place.proofs.parts.push_veneers.Given as goal

abbrev pub invariant-loop-veneer : goal.invariant-loop-veneer
invariant-loop-veneer l = l.out.items ++ veneer_pieces l.number (map region_veneer (drop l.veneer-index l.veneers))
    ≡ l.initial.out.items ++ veneer_pieces l.number (map region_veneer l.veneers)
