use Rattle.std.proofs.Common.{◌≡◌, ◌++◌, drop}
use Rattle.std.specs.Prelude.{slice_get}
use Rattle.std.specs.List.{flat_map}
use Rattle.link_model.specs.Members.{link_of}
use Rattle.link_apply.specs.Flaws.{refusals_at}
use Rattle.link_apply.specs.Pieces.{area_region_pieces}
use Rattle.link_apply.proofs.placing.pieces_of_areas.Given as goal

abbrev pub invariant-loop-placed : goal.invariant-loop-placed
invariant-loop-placed l =
    let link = l.known.linked.now in
    let p = l.known.placement.now in
    record {
      pieces : l.pieces.items ++ area_region_pieces (link_of link) p (drop l.placed-index p.areas) ≡ area_region_pieces (link_of link) p p.areas;
      sound : slice_get (flat_map (λ placed. refusals_at link p placed (slice_get link.objects placed.area.object)) p.areas) 0
          ≡ slice_get (flat_map (λ placed. refusals_at link p placed (slice_get link.objects placed.area.object)) (drop l.placed-index p.areas)) 0;
    }
