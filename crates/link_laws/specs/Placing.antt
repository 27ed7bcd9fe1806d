-- Where linked objects stand by a plan: the addresses of their areas, the region of each, and the veneers by which its
-- branches go (SDT 2.50 Reference Guide, armlink; ARM Object Format, relocation directives).
use Rattle.std.specs.Prelude.{◌≡◌, ℕ, ◌+◌, ◌%◌, ◌^◌, Bool, false, not, ◌&&◌, ◌==◌, List, length, slice_get, unwrap_or, Option, Some, None}
use Rattle.std.specs.List.{find, list_any, AllByRecursion}
use Rattle.std.specs.Option.{option_map}
use Rattle.sdt_word.specs.Numbers.{bit}
use Rattle.sdt_word.specs.declared.ranges.Range32.{Range32}
use Rattle.aof_object.specs.declared.records.Area.{Area}
use Rattle.aof_object.specs.declared.records.Object.{Object}
use Rattle.aof_object.specs.declared.records.Symbol.{Symbol}
use Rattle.aof_object.specs.Validity.{IsValid}
use Rattle.patch_model.specs.Fields.{Home, Meant, Values}
use Rattle.patch_model.specs.Patched.{other_state, Veneers, Patched}
use Rattle.patch_model.specs.Reaches.{HasVeneer}
use Rattle.place_model.specs.declared.scatter.Kind.{Kind}
use Rattle.place_model.specs.declared.scatter.Kind.TheVariants as kind
use Rattle.place_model.specs.Assignment.{description, described_regions, AreAssigned}
use Rattle.place_model.specs.Faults.{place_refusal}
use Rattle.place_model.specs.Laws.{IsWholeBase}
use Rattle.place_model.specs.Plans.{Planned, execution_size, Plan, regions_of, plan_of, stood_in, address_of, is_area, area_address, boot_address}
use Rattle.place_model.specs.Things.{Thing, AVeneer, stood}
use Rattle.image_model.specs.Regions.{Given}
use Rattle.link_model.specs.declared.placing.AreaName.{AreaName}
use Rattle.link_model.specs.declared.placing.Veneer.{Veneer}
use Rattle.link_model.specs.declared.selection.Linked.{Linked}
use Rattle.link_model.specs.declared.selection.Named.{Named}
use Rattle.link_model.specs.Members.{link_of}
use Rattle.link_model.specs.RegionValues.{reduced_by}
use Rattle.link_model.specs.Values.{Bases, meant_of, values_of}
use Rattle.link_items.specs.LinkedItems.{items_in, contents_of}
use Rattle.link_values.specs.Placed.{reduced_meant, reduced_values}

-- ---- addresses

-- of each area that is in a region, in a scatter image modulo 2^32; 0 stands for that of any other
abbrev pub bases_of : Plan → Bases
bases_of p object area = unwrap_or (option_map (reduced_by (boot_address p)) (area_address p object area)) 0

abbrev pub has_area : ℕ → ℕ → Planned → Bool
has_area object area r = list_any (λ s. is_area object area s.thing) (stood_in r)

-- the region in which an area is
abbrev pub region_with : Plan → ℕ → ℕ → Option Planned
region_with p object area = find (has_area object area) (regions_of p)

-- its execution range
abbrev pub IsRange : Option Planned → Range32 → Type 0
IsRange None range = Unit {0}
IsRange (Some r) range = (range.base ≡ r.base) × (range.size ≡ execution_size r)

-- ---- veneers

abbrev pub is_veneer : Home → Bool → Thing → Bool
is_veneer target thumb (AVeneer h t) =
    h.object == target.object && (h.area == target.area && (h.offset == target.offset && not (other_state t thumb)))
is_veneer target thumb _ = false

-- the addresses of a region's veneers
abbrev pub veneers_in : Option Planned → Veneers
veneers_in None target thumb = None
veneers_in (Some r) target thumb = address_of (is_veneer target thumb) (stood_in r)

-- ---- a link that is placed

-- the plan of linked objects, with the areas of each region and the veneers
abbrev pub link_plan : Kind → Linked → List (List AreaName) → List Veneer → Plan
link_plan k l regions veneers = plan_of k (contents_of l.objects regions veneers)

-- the objects are valid, a description has whole words, each area is in the region that takes it, and nothing is refused
pub record IsPlacedLink (k : Kind) (ram : Option (List Range32)) (l : Linked) (regions : List (List AreaName)) (veneers : List Veneer) : Type 0 where
  pub valid : AllByRecursion (λ o. IsValid o.value) l.objects
  pub loads : AllByRecursion (λ load. load.base % 4 ≡ 0) (description k)
  pub bases : AllByRecursion (λ r. IsWholeBase r.base) (described_regions k)
  pub assigned : AreAssigned k (items_in l.objects) (contents_of l.objects regions veneers).areas
  pub accepted : place_refusal k ram (link_plan k l regions veneers) ≡ None

-- the values of an object's symbols there, where `numbers` has the region symbols
abbrev pub values_in : Plan → Linked → (List ℕ → Option ℕ) → ℕ → Values
values_in p l numbers own = reduced_values (boot_address p) (values_of (link_of l) numbers (bases_of p) own)

-- the value of a definition of an object
abbrev pub meant_in : Plan → ℕ → Option Symbol → Meant
meant_in p own s = reduced_meant (boot_address p) (meant_of (bases_of p) own s)

-- ---- its bytes

-- an area that has bytes has its object's with the fields patched
abbrev pub IsApplied : Plan → Linked → (List ℕ → Option ℕ) → Given → ℕ → ℕ → Object → Type 0
IsApplied p l numbers g own area o = Patched o area (values_in p l numbers own) (veneers_in (region_with p own area)) (g.area own area)

-- a veneer at an address leads to its target there
abbrev pub IsVeneerApplied : Plan → Given → Planned → ℕ → Thing → Type 0
IsVeneerApplied p g r at (AVeneer target thumb) =
    HasVeneer at ((bases_of p target.object target.area + target.offset) % 2 ^ 32) thumb (g.veneer r.number target thumb)
IsVeneerApplied p g r at _ = Unit {0}

-- the bytes of all areas and veneers are so
pub record AreApplied (p : Plan) (l : Linked) (numbers : List ℕ → Option ℕ) (g : Given) : Type 0 where
  pub areas : (own area : ℕ) (o : Named Object) (a : Area) → slice_get l.objects own ≡ Some o → slice_get o.value.areas area ≡ Some a
      → bit a.attributes 12 == 1 ≡ false → IsApplied p l numbers g own area o.value
  pub veneers : AllByRecursion (λ r. AllByRecursion (λ s. IsVeneerApplied p g r s.address s.thing) (stood r.origin r.base r.things)) (regions_of p)

-- an AIF has a header
abbrev pub IsHeaderOf : Kind → List ℕ → Type 0
IsHeaderOf (kind.Aif base relocatable) header = length header ≡ 128
IsHeaderOf _ header = Unit {0}
