use Rattle.std.proofs.Common.{ℕ, List, refl, subst}
use Rattle.link_model.specs.declared.placing.PlacedArea.{PlacedArea}
use Rattle.link_model.specs.Members.{objects_in}
use Rattle.link_values.specs.Regions.{AreNumbers, AreExtents}
use Rattle.link_values.proofs.RegionLemmas.{region_same}
use Rattle.link_values.proofs.regions.region_symbols.Goals as goal

pub returns : goal.returns
returns c =
    region_same (objects_in c.args.objects.now) c.args.placement.now
    (record { numbers = c.in_ok-index_numbers.field-0; extents = c.in_ok-index_extents.field-0; boot = c.args.placement.now.boot }) refl
    (subst (λ (l : List (List ℕ × ℕ)). AreNumbers l c.in_ok-index_numbers.field-0) c.requires c.in_ok-index_numbers.ensures)
    (subst (λ (l : List PlacedArea). AreExtents (objects_in c.args.objects.now) l c.in_ok-index_extents.field-0) c.as_slice.ensures c.in_ok-index_extents.ensures)
