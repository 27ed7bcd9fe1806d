-- A link that is made: each area has its region, the veneers are those that are needed, everything is placed without a
-- refusal, and no relocation has a flaw. What its plan's image is made of then. SDT 2.50 Reference Guide, armlink.
use Rattle.std.specs.Prelude.{◌≡◌, ℕ, suc, ◌%◌, false, ◌==◌, if◌then◌else◌, List, [], ◌∷◌, ◌++◌, slice_get, map, Option, Some, None, Ok}
use Rattle.std.specs.List.{find, AllByRecursion}
use Rattle.std.specs.Option.{option_map_or}
use Rattle.sdt_word.specs.declared.ranges.Range32.{Range32}
use Rattle.aof_object.specs.declared.records.Area.{Area}
use Rattle.aof_object.specs.declared.records.Object.{Object}
use Rattle.aof_object.specs.Validity.{IsValid}
use Rattle.boot_code.specs.Boots.{Boots}
use Rattle.boot_code.specs.Laws.{bound_of, written_by}
use Rattle.boot_code.specs.Startup.{zeros}
use Rattle.boot_code.specs.Maps.{Segment, map_of}
use Rattle.place_model.specs.declared.scatter.Kind.{Kind}
use Rattle.place_model.specs.declared.scatter.Kind.TheVariants as kind
use Rattle.place_model.specs.declared.scatter.Scatter.{Scatter}
use Rattle.place_model.specs.declared.scatter.ScatterLoad.{ScatterLoad}
use Rattle.place_model.specs.Assignment.{description, described_regions}
use Rattle.place_model.specs.Laws.{IsWholeBase}
use Rattle.place_model.specs.Plans.{Plan, regions_of, copies_of, parts_of, boot_address}
use Rattle.image_model.specs.Regions.{Given, Filling, region_bytes, filled}
use Rattle.image_model.specs.Views.{view_of, files_of}
use Rattle.image_laws.specs.Laws.{IsImage}
use Rattle.link_model.specs.declared.placing.Assigned.{Assigned}
use Rattle.link_model.specs.declared.placing.PlacedArea.{PlacedArea}
use Rattle.link_model.specs.declared.placing.Placement.{Placement}
use Rattle.link_model.specs.declared.placing.Region.{Region}
use Rattle.link_model.specs.declared.placing.Veneer.{Veneer}
use Rattle.link_model.specs.declared.selection.Linked.{Linked}
use Rattle.link_model.specs.declared.selection.Named.{Named}
use Rattle.link_model.specs.Definitions.{is_thumb}
use Rattle.link_model.specs.Members.{Link, link_of, objects_in}
use Rattle.link_model.specs.RegionValues.{area_of, region_number}
use Rattle.link_items.specs.LinkedItems.{contents_of, has_header}
use Rattle.link_assign.specs.Assigning.{assignment_of}
use Rattle.link_veneer.specs.Planning.{planned_veneers}
use Rattle.link_place.specs.Placed.{placed}
use Rattle.link_values.specs.Placed.{is_area, base_in, values_in}
use Rattle.link_apply.specs.Flaws.{apply_refusal}
use Rattle.link_apply.specs.Laws.{AreBytes}
use Rattle.link_apply.specs.PatchedBytes.{patched_bytes, veneer_bytes}
use Rattle.link_apply.specs.Placed.{veneers_at, target_in}
use Rattle.link_apply.specs.RegionBytes.{entry_of, copy_rows, zero_rows, regions_bytes}
use Rattle.link_laws.specs.Placing.{bases_of, link_plan, IsPlacedLink, AreApplied}

-- ---- a link that is made

-- the entry is that of the object, whose state its area has
pub record IsEntryOf (l : Linked) : Type 0 where
  pub object : Named Object
  pub at : slice_get l.objects l.entry.object ≡ Some object
  pub entry : object.value.entry ≡ Some (record { area = l.entry.area; offset = l.entry.offset })
  pub state : l.entry.thumb ≡ is_thumb (slice_get object.value.areas l.entry.area)

pub record IsMade (k : Kind) (ram : Option (List Range32)) (l : Linked) (a : Assigned) (vs : List Veneer) (p : Placement) : Type 0 where
  pub valid : AllByRecursion (λ o. IsValid o.value) l.objects
  pub bytes : AllByRecursion (λ o. AllByRecursion (λ z. AreBytes z.bytes) o.value.areas) l.objects
  pub loads : AllByRecursion (λ load. load.base % 4 ≡ 0) (description k)
  pub bases : AllByRecursion (λ r. IsWholeBase r.base) (described_regions k)
  pub entered : IsEntryOf l
  pub assigned : assignment_of k l.objects ≡ Ok a
  pub planned : planned_veneers l a (has_header k) ≡ Ok vs
  pub placed : placed k ram (contents_of l.objects a.regions vs) ≡ Ok p
  pub sound : apply_refusal l p ≡ None

-- ---- what its image is made of

abbrev pub area_bytes : Link → Placement → Option PlacedArea → Option Area → List ℕ
area_bytes l p (Some at) (Some a) = patched_bytes p (values_in l p at.area.object) at.region at.address a
area_bytes l p at a = []

abbrev pub area_given : Link → Placement → ℕ → ℕ → List ℕ
area_given l p object area = area_bytes l p (find (is_area object area) p.areas) (area_of l.objects (record { object = object; area = area }))

abbrev pub given_in : Link → Placement → Given
given_in l p = record {
  area = area_given l p;
  veneer = λ region target thumb. option_map_or (λ v. veneer_bytes v (target_in p target) thumb) (veneers_at p region target thumb) [];
  entry = entry_of l p;
  call = entry_of l p;
}

-- zeros stand in the place of a header
abbrev pub front_of : Kind → List ℕ
front_of k = if has_header k then zeros 0x80 else []

-- as no header is made of it, these are the bytes of files
abbrev pub filled_in : Linked → Placement → Plan → Filling
filled_in l p plan = filled (given_in (link_of l) p) plan []

-- ---- laws

-- it is placed as the laws on plans ask
abbrev pub MadeIsPlaced : Type 0
MadeIsPlaced =
    (k : Kind) (ram : Option (List Range32)) (l : Linked) (a : Assigned) (vs : List Veneer) (p : Placement)
    → IsMade k ram l a vs p → IsPlacedLink k ram l a.regions vs

-- the placement has the addresses, veneers, rows and startup code of the plan
pub record PlacesOf (p : Placement) (plan : Plan) : Type 0 where
  pub bases : (object area : ℕ) → base_in p object area ≡ bases_of plan object area
  pub copies : copy_rows p ≡ copies_of plan
  pub parts : zero_rows p ≡ parts_of plan
  pub boot : p.boot ≡ boot_address plan

abbrev pub MadeHasPlaces : Type 0
MadeHasPlaces =
    (k : Kind) (ram : Option (List Range32)) (l : Linked) (a : Assigned) (vs : List Veneer) (p : Placement)
    → IsMade k ram l a vs p → PlacesOf p (link_plan k l a.regions vs)

-- its areas are patched, and its veneers lead to their targets
abbrev pub MadeIsApplied : Type 0
MadeIsApplied =
    (k : Kind) (ram : Option (List Range32)) (l : Linked) (a : Assigned) (vs : List Veneer) (p : Placement)
    → IsMade k ram l a vs p
    → AreApplied (link_plan k l a.regions vs) l (region_number (objects_in l.objects) p) (given_in (link_of l) p)

-- the bytes of its regions are those of the plan's image, without a header
abbrev pub bytes_of_plan : Linked → Placement → Plan → List (List ℕ)
bytes_of_plan l p plan = map (region_bytes (filled_in l p plan)) (regions_of plan)

abbrev pub MadeHasBytes : Type 0
MadeHasBytes =
    (k : Kind) (ram : Option (List Range32)) (l : Linked) (a : Assigned) (vs : List Veneer) (p : Placement)
    → IsMade k ram l a vs p → has_header k ≡ false
    → regions_bytes (link_of l) p ≡ bytes_of_plan l p (link_plan k l a.regions vs)

-- the bytes of the regions that the load region of a number has, one after the other
abbrev pub bytes_of_load : ℕ → List Region → List (List ℕ) → List ℕ
bytes_of_load number [] parts = []
bytes_of_load number (r ∷ regions) [] = []
bytes_of_load number (r ∷ regions) (bytes ∷ parts) = (if r.load_region == number then bytes else []) ++ bytes_of_load number regions parts

-- the files of load regions that are counted from a number on
abbrev pub files_from : ℕ → List Region → List (List ℕ) → List ScatterLoad → List Segment
files_from number regions parts [] = []
files_from number regions parts (l ∷ loads) =
    (record { base = l.base; bytes = bytes_of_load number regions parts }) ∷ files_from (suc number) regions parts loads

-- the files of its plan have these bytes, each what the regions of its load region have
abbrev pub MadeFiles : Type 0
MadeFiles =
    (k : Kind) (ram : Option (List Range32)) (l : Linked) (a : Assigned) (vs : List Veneer) (p : Placement)
    → IsMade k ram l a vs p → has_header k ≡ false
    → let plan : Plan = link_plan k l a.regions vs in
    files_of plan (filled_in l p plan) ≡ files_from 0 p.regions (regions_bytes (link_of l) p) (description k)

-- a scatter image is one that starts, with the view and the files of its plan
abbrev pub MadeStarts : Type 0
MadeStarts =
    (s : Scatter) (ram : Option (List Range32)) (l : Linked) (a : Assigned) (vs : List Veneer) (p : Placement) (boot : ℕ)
    → IsMade (kind.Scatter s) ram l a vs p → p.boot ≡ Some boot
    → let plan : Plan = link_plan (kind.Scatter s) l a.regions vs in
    IsImage s (contents_of l.objects a.regions vs) (given_in (link_of l) p) ram
    (view_of plan (filled_in l p plan)) (files_of plan (filled_in l p plan)) boot

-- so it boots: its files reach the entry within the bound, with the memory as the view of its plan says
abbrev pub MadeBoots : Type 0
MadeBoots =
    (s : Scatter) (ram : Option (List Range32)) (l : Linked) (a : Assigned) (vs : List Veneer) (p : Placement) (boot : ℕ)
    → IsMade (kind.Scatter s) ram l a vs p → p.boot ≡ Some boot
    → let plan : Plan = link_plan (kind.Scatter s) l a.regions vs in
    Boots (map_of (files_of plan (filled_in l p plan))) (view_of plan (filled_in l p plan)) (written_by (copies_of plan) (parts_of plan)) boot
    (bound_of (copies_of plan) (parts_of plan)) (entry_of (link_of l) p)
