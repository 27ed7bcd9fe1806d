use Rattle.std.proofs.Common.{◌≡◌, ◌++◌, map, Ok, append_assoc, sym, ap, ◌∙◌}
use Rattle.std.specs.Prelude.{slice_get}
use Rattle.link_model.specs.Members.{link_of}
use Rattle.link_model.specs.Options.{refused_or}
use Rattle.link_apply.specs.Flaws.{apply_refusal}
use Rattle.link_apply.specs.Pieces.{all_pieces, area_region_pieces, laid_from, pieces_in, startup_region_piece, veneer_region_piece}
use Rattle.link_apply.specs.RegionBytes.{regions_bytes}
use Rattle.link_apply.proofs.PatchingLemmas.{ok_sound, ok_same}
use Rattle.link_apply.proofs.PieceLemmas.{all_laid}
use Rattle.link_apply.proofs.applying.applied_to.Goals as goal

pub returns : goal.returns
returns c =
    let l = c.args.known.now.linked.now in
    let p = c.args.known.now.placement.now in
    let areas = area_region_pieces (link_of l) p p.areas in
    let veneers = map (veneer_region_piece p) p.veneers in
    let startup = startup_region_piece (link_of l) p (slice_get p.regions 0) p.boot in
    let none = ok_sound (apply_refusal l p) areas c.in_ok-found.found (sym c.in_ok-found.ensures) in
    let same = ok_same (apply_refusal l p) areas c.in_ok-found.found (sym c.in_ok-found.ensures) in
    let pieces : c.add_startup.new.pieces.items ≡ all_pieces (link_of l) p =
    c.in_ok-add_startup.ensures ∙ (λ i. (c.in_ok-add_veneers.ensures ∙ (λ j. (c.into_vec-pieces.ensures ∙ same) j ++ veneers)) i ++ startup) ∙ append_assoc areas veneers startup in
    let all =
    c.in_ok-all.ensures ∙ (λ i. laid_from (pieces_in ((c.as_slice-2.ensures.value ∙ pieces) i)) 0 (c.as_slice.ensures i)) ∙ all_laid (link_of l) p in
    ap (λ o. refused_or o (regions_bytes (link_of l) p)) none ∙ ap Ok (sym all)
