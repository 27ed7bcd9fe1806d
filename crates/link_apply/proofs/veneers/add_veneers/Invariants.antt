use Rattle.std.proofs.Common.{◌≡◌, ◌++◌, map, drop}
use Rattle.link_apply.specs.Pieces.{veneer_region_piece}
use Rattle.link_apply.proofs.veneers.add_veneers.Given as goal

abbrev pub invariant-loop-placed : goal.invariant-loop-placed
invariant-loop-placed l =
    let p = l.known.placement.now in
    l.pieces.items ++ map (veneer_region_piece p) (drop l.placed-index p.veneers) ≡ l.fn.pieces.items ++ map (veneer_region_piece p) p.veneers
