use Rattle.std.proofs.Common.{◌≡◌, ℕ, List, ◌<◌, ◌≤◌, ◌^◌, get_or, length, sym, ap, subst, ◌∙◌, arith}
use Rattle.std.specs.Prelude.{slice_get, Some}
use Rattle.std.proofs.lemmas.Option.{slice_get-get_or}
use Rattle.chunk_file.specs.Reading.{Gives}
use Rattle.link_model.specs.declared.placing.PlacedArea.{PlacedArea}
use Rattle.link_model.specs.Members.{link_of}
use Rattle.link_model.specs.Options.{refused_or}
use Rattle.link_model.specs.RegionValues.{area_of}
use Rattle.link_apply.specs.Flaws.{apply_refusal, refusals_at}
use Rattle.link_apply.specs.Pieces.{area_region_piece, area_region_pieces}
use Rattle.link_apply.proofs.PatchingLemmas.{each_at, err_is, gives_by, joined_dropped, joined_stopped, ok_sound, ok_same, pieces_dropped}
use Rattle.link_apply.proofs.placing.pieces_of_areas.Goals as goal

there_at : (xs ys : List PlacedArea) (i : ℕ) (d : PlacedArea) → xs ≡ ys → i < length ys → slice_get ys i ≡ Some (get_or xs i d)
there_at xs ys i d e h = slice_get-get_or ys i d h ∙ ap (λ l. Some (get_or l i d)) (sym e)

pub piece_at-requires-clause-address : goal.piece_at-requires-clause-address
piece_at-requires-clause-address c =
    let p = c.args.known.now.placement.now in
    let slice = c.as_slice-placed-items.result.now in
    let i = c.loop-placed.placed-index in
    let none : PlacedArea = record { area = record { object = 0; area = 0 }; region = 0; address = 0 } in
    each_at (λ a. a.address ≤ 2 ^ 32) p.areas i (get_or slice i none) c.requires.within.areas
    (there_at slice p.areas i none c.as_slice-placed-items.ensures (omega (arith, c.loop-placed-test.true, ap length c.as_slice-placed-items.ensures)))

pub returns-in_err-piece : goal.returns-in_err-piece
returns-in_err-piece c =
    let l = c.args.known.now.linked.now in
    let p = c.args.known.now.placement.now in
    let slice = c.as_slice-placed-items.result.now in
    let i = c.loop-placed.placed-index in
    let none : PlacedArea = record { area = record { object = 0; area = 0 }; region = 0; address = 0 } in
    let x : PlacedArea = get_or slice i none in
    let there = there_at slice p.areas i none c.as_slice-placed-items.ensures (omega (arith, c.loop-placed-test.true, ap length c.as_slice-placed-items.ensures)) in
    subst (λ r. Gives r (refused_or (apply_refusal l p) (area_region_pieces (link_of l) p p.areas))) (sym (err_is c.from_residual.result c.in_err-piece.field-0.0 c.from_residual.ensures.1))
    (gives_by (slice_get (refusals_at l p x (slice_get l.objects x.area.object)) 0) (apply_refusal l p)
    (area_region_piece (link_of l) p x (area_of (link_of l).objects x.area)) (area_region_pieces (link_of l) p p.areas) c.in_err-piece.field-0.0
    (λ r some. joined_stopped (λ placed. refusals_at l p placed (slice_get l.objects placed.area.object)) p.areas i x r (apply_refusal l p) there some c.loop-placed.invariant.sound)
    c.in_err-piece.ensures)

pub loop-placed-preserved : goal.loop-placed-preserved
loop-placed-preserved c =
    let l = c.args.known.now.linked.now in
    let p = c.args.known.now.placement.now in
    let slice = c.as_slice-placed-items.result.now in
    let i = c.loop-placed.placed-index in
    let none : PlacedArea = record { area = record { object = 0; area = 0 }; region = 0; address = 0 } in
    let x : PlacedArea = get_or slice i none in
    let there = there_at slice p.areas i none c.as_slice-placed-items.ensures (omega (arith, c.loop-placed-test.true, ap length c.as_slice-placed-items.ensures)) in
    let first = slice_get (refusals_at l p x (slice_get l.objects x.area.object)) 0 in
    let piece = area_region_piece (link_of l) p x (area_of (link_of l).objects x.area) in
    let sound = ok_sound first piece c.in_ok-piece.piece (sym c.in_ok-piece.ensures) in
    let same = sym (ok_same first piece c.in_ok-piece.piece (sym c.in_ok-piece.ensures)) in
    record {
      pieces = pieces_dropped (λ a. area_region_piece (link_of l) p a (area_of (link_of l).objects a.area)) p.areas i x c.in_ok-piece.piece c.loop-placed.pieces.items
          c.add_piece.new.pieces.items there same c.in_ok-add_piece.ensures c.loop-placed.invariant.pieces;
      sound = joined_dropped (λ placed. refusals_at l p placed (slice_get l.objects placed.area.object)) p.areas i x (apply_refusal l p) there sound c.loop-placed.invariant.sound;
    }
