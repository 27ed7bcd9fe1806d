-- The areas of linked objects by the placement of their plan: one that holds what its directives ask for is applied.
use Rattle.std.proofs.Common.{◌≡◌, ℕ, ◌<◌, List, length, sym, ap, subst, ◌∙◌, arith, Option, Some}
use Rattle.std.specs.Prelude.{slice_get, IsSomeAnd}
use Rattle.std.specs.List.{find}
use Rattle.std.specs.Option.{option_map, option_and_then}
use Rattle.std.proofs.lemmas.Option.{slice_get-map}
use Rattle.base_lemmas.proofs.BaseLemmas.{same}
use Rattle.sdt_word.specs.declared.ranges.Range32.{Range32}
use Rattle.aof_object.specs.declared.records.Area.{Area}
use Rattle.aof_object.specs.declared.records.Object.{Object}
use Rattle.patch_model.specs.Fields.{Values}
use Rattle.patch_model.specs.Patched.{Veneers, AreaPatched}
use Rattle.place_model.specs.declared.scatter.Kind.{Kind}
use Rattle.aof_object.specs.Validity.{IsValid}
use Rattle.place_model.proofs.ListLemmas.{all_at}
use Rattle.place_model.specs.Plans.{Plan, boot_address, regions_of}
use Rattle.link_model.specs.declared.placing.AreaName.{AreaName}
use Rattle.link_model.specs.declared.placing.PlacedArea.{PlacedArea}
use Rattle.link_model.specs.declared.placing.Placement.{Placement}
use Rattle.link_model.specs.declared.placing.Veneer.{Veneer}
use Rattle.link_model.specs.declared.selection.Linked.{Linked}
use Rattle.link_model.specs.declared.selection.Named.{Named}
use Rattle.link_model.specs.Members.{link_of, objects_in}
use Rattle.link_model.specs.RegionValues.{area_of, region_number}
use Rattle.link_model.specs.Values.{Bases, values_of}
use Rattle.link_items.specs.LinkedItems.{contents_of}
use Rattle.link_place.specs.Placed.{placement_of}
use Rattle.link_values.specs.Placed.{is_area, reduced_values}
use Rattle.link_values.specs.Placed as placed
use Rattle.link_apply.specs.PatchedBytes.{patched_bytes}
use Rattle.link_apply.specs.Placed.{veneers_at}
use Rattle.link_laws.specs.Placing.{bases_of, region_with, veneers_in, link_plan, IsPlacedLink, values_in, IsApplied}
use Rattle.link_laws.specs.Joins.{area_bytes, given_in}
use Rattle.link_laws.proofs.PlacedLemmas.{IsFound, found as found_area, full_base}
use Rattle.link_laws.proofs.ReducedLemmas.{bytes_le, patched_at}
use Rattle.link_laws.proofs.Made.AddressLemmas.{placed_as, area_found, veneers_there, has_places}

pub area_there : (os : List (Named Object)) (own area : ℕ) (o : Named Object) (a : Area) → slice_get os own ≡ Some o → slice_get o.value.areas area ≡ Some a
    → area_of (objects_in os) (record { object = own; area = area }) ≡ Some a
area_there os own area o a here there =
    let object : slice_get (objects_in os) own ≡ Some o.value = slice_get-map (λ (z : Named Object). z.value) os own ∙ ap (option_map (λ (z : Named Object). z.value)) here in
    ap (option_and_then (λ (z : Object). slice_get z.areas area)) object ∙ there

module _ (k : Kind) (ram : Option (List Range32)) (l : Linked) (regions : List (List AreaName)) (vs : List Veneer) (h : IsPlacedLink k ram l regions vs) where
  abbrev plan : Plan
  plan = link_plan k l regions vs

  abbrev p : Placement
  p = placement_of plan

  abbrev numbers : List ℕ → Option ℕ
  numbers = region_number (objects_in l.objects) p

  pub same_values : (own : ℕ) → placed.values_in (link_of l) p own ≡ values_in plan l numbers own
  same_values own = ap (λ (b : Bases). reduced_values (boot_address plan) (values_of (link_of l) numbers b own)) (λ i object area. (has_places plan).bases object area i)

  module _ (own : ℕ) (o : Named Object) (here : slice_get l.objects own ≡ Some o) (area : ℕ) (x : Area) (there : slice_get o.value.areas area ≡ Some x) where
    abbrev place : IsFound (link_plan k l regions vs) own area
    place = found_area k ram l regions vs h own o here area x there

    abbrev address : ℕ
    address = place.spot.address

    pub is_found : find (is_area own area) p.areas ≡ Some (placed_as own area place.owner.number address)
    is_found = area_found own area (regions_of plan) place.owner place.spot place.region place.there

    -- where it has bytes
    pub base_there : 0 < length x.bytes → bases_of plan own area ≡ address
    base_there some =
        let valid : IsValid o.value = all_at (λ (q : Named Object). IsValid q.value) l.objects own o h.valid here in
        let fits = bytes_le o.value valid area x there in
        full_base k ram l regions vs h own o here area x there (omega (arith, some, fits))

    same_veneers : veneers_at p place.owner.number ≡ veneers_in (region_with plan own area)
    same_veneers =
        (λ i target thumb. veneers_there k (contents_of l.objects regions vs) place.place place.owner place.at target thumb i)
        ∙ ap veneers_in (sym place.region)

    -- by the placed area of its number
    abbrev pub IsPatchedAt : PlacedArea → Values → Type 0
    IsPatchedAt s values = AreaPatched x.relocs x.bytes s.address values (veneers_at p s.region) (patched_bytes p values s.region s.address x)

    pub applied_at : (s : PlacedArea) → find (is_area own area) p.areas ≡ Some s → IsPatchedAt s (placed.values_in (link_of l) p own)
        → IsApplied plan l numbers (given_in (link_of l) p) own area o.value
    applied_at s at fits =
        let base : ℕ = bases_of plan own area in
        let spot : PlacedArea = placed_as own area place.owner.number address in
        let is : s ≡ spot = same s spot (sym at ∙ is_found) in
        let values : Values = values_in plan l numbers own in
        let patched : IsPatchedAt spot values = subst (IsPatchedAt spot) (same_values own) (subst (λ (z : PlacedArea). IsPatchedAt z (placed.values_in (link_of l) p own)) is fits) in
        let by_plan : AreaPatched x.relocs x.bytes address values (veneers_in (region_with plan own area)) (patched_bytes p values place.owner.number address x) =
        subst (λ (z : Veneers). AreaPatched x.relocs x.bytes address values z (patched_bytes p values place.owner.number address x)) same_veneers patched in
        let bytes : (given_in (link_of l) p).area own area ≡ patched_bytes p values place.owner.number address x =
        ap (λ (q : Option PlacedArea). area_bytes (link_of l) p q (area_of (objects_in l.objects) (record { object = own; area = area }))) is_found
        ∙ ap (area_bytes (link_of l) p (Some spot)) (area_there l.objects own area o x here there)
        ∙ ap (λ (z : Values). patched_bytes p z place.owner.number address x) (same_values own) in
        let given : AreaPatched x.relocs x.bytes base values (veneers_in (region_with plan own area)) ((given_in (link_of l) p).area own area) =
        patched_at x address base values (veneers_in (region_with plan own area)) ((given_in (link_of l) p).area own area) base_there
        (subst (AreaPatched x.relocs x.bytes address values (veneers_in (region_with plan own area))) (sym bytes) by_plan) in
        subst (λ (z : Option Area). IsSomeAnd z (λ (q : Area). AreaPatched q.relocs q.bytes base values (veneers_in (region_with plan own area)) ((given_in (link_of l) p).area own area))) (sym there) given
