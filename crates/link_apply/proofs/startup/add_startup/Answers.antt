use Rattle.std.proofs.Common.{List, sym, ap, ◌∙◌}
use Rattle.std.specs.Prelude.{slice_get}
use Rattle.link_model.specs.declared.placing.Region.{Region}
use Rattle.link_apply.specs.Applied.{IsRegionWithin}
use Rattle.link_apply.proofs.PatchingLemmas.{each_at}
use Rattle.link_apply.proofs.startup.add_startup.Goals as goal

pub startup_piece-requires-clause-region : goal.startup_piece-requires-clause-region
startup_piece-requires-clause-region c =
    each_at IsRegionWithin c.args.known.now.placement.now.regions 0 c.in-Some.region.now c.requires.within.regions
    (ap (λ (rs : List Region). slice_get rs 0) (sym c.as_slice.ensures) ∙ sym c.in-Some.ensures.value)
