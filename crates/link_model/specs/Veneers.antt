-- Which veneers a link needs: one for each region, target and direction, in order of first need, for the
-- relocated branches of its areas to symbols of the other state (ARM Architecture Reference Manual, the
-- encodings of B and BL; SDT 2.50 Reference Guide, ARM Object Format, relocation directives, and armlink's
-- interworking veneers; the order, and that an AIF's header needs its veneer first, are this project's).
use Rattle.std.specs.Prelude.{◌≡◌, ◌⊎◌, ℕ, suc, ◌+◌, ◌≤◌, Bool, true, not, ◌&&◌, nat_le, ◌==◌, if◌then◌else◌, List, [], ◌∷◌, ◌++◌, length, slice_get, count_by, Option, Some, None}
use Rattle.std.specs.List.{flat_map, filter_map, list_any}
use Rattle.aof_object.specs.declared.records.Area.{Area}
use Rattle.aof_object.specs.declared.records.Reloc.{Reloc}
use Rattle.patch_model.specs.Fields.{Kind, Branch, Field, Values, field_of, kind_of, is_relative, is_by_symbol, directives, size_of, number_in}
use Rattle.patch_model.specs.Patched.{Way, Directly, ByVeneer, other_state, is_branch, IsBranch, way_of}
use Rattle.link_model.specs.declared.selection.LinkedEntry.{LinkedEntry}
use Rattle.link_model.specs.declared.placing.AreaName.{AreaName}
use Rattle.link_model.specs.declared.placing.Veneer.{Veneer}
use Rattle.link_model.specs.Members.{Link}
use Rattle.link_model.specs.RegionValues.{area_of}
use Rattle.link_model.specs.Values.{Bases, values_of}

-- ---- branches

-- a relocation of the same place and width; one inside the field has another field, which overlaps it
abbrev pub shares_field : Field → Reloc → Bool
shares_field f r = (field_of r).place == f.place && size_of (kind_of r) == size_of f.kind

-- the relocation is relative to its area, by a symbol, and no other has its field
abbrev pub is_alone : List Reloc → Reloc → Bool
is_alone relocs r = is_relative r && (is_by_symbol r && count_by (shares_field (field_of r)) relocs == 1)

-- the field lies in the area and reads as a branch of a state
abbrev pub has_branch : Bool → List ℕ → Field → Bool
has_branch thumb bytes f = nat_le (f.place + size_of f.kind) (length bytes) && is_branch thumb (number_in bytes f)

-- ---- one branch

-- the veneer in a region, where the branch goes by one
abbrev pub veneer_by : ℕ → Way → Option Veneer
veneer_by region Directly = None
veneer_by region (ByVeneer h thumb) =
    Some (record { region = region; area = record { object = h.object; area = h.area }; offset = h.offset; thumb = thumb })

-- A way names its target by an area and an offset, so that it is the same wherever the areas stand and
-- whatever the numbers of region symbols are. Here all areas stand at 0.
abbrev pub values_apart : Link → ℕ → Values
values_apart l object = values_of l (λ q. None) (λ other area. 0) object

abbrev pub needed_as : Kind → Link → ℕ → ℕ → Area → Reloc → Option Veneer
needed_as (Branch thumb) l region object area r =
    if is_alone area.relocs r && has_branch thumb area.bytes (field_of r) then
    veneer_by region (way_of 0 (values_apart l object) area.bytes (field_of r) thumb (directives area.relocs (field_of r)))
    else None
needed_as kind l region object area r = None

-- the veneer that a relocation of an area in a region needs, if any
abbrev pub needed_by : Link → ℕ → AreaName → Area → Reloc → Option Veneer
needed_by l region a area r = needed_as (kind_of r) l region a.object area r

-- ---- all of them

abbrev pub needed_in : Link → ℕ → AreaName → Option Area → List Veneer
needed_in l region a None = []
needed_in l region a (Some area) = filter_map (needed_by l region a area) area.relocs

-- of regions that are counted from k on: areas in their order, relocations in the order of their list
abbrev pub needed_from : Link → ℕ → List (List AreaName) → List Veneer
needed_from l k [] = []
needed_from l k (areas ∷ rest) = flat_map (λ a. needed_in l k a (area_of l.objects a)) areas ++ needed_from l (suc k) rest

-- an AIF's header calls the entry from its first region
abbrev pub needed_by_header : Bool → LinkedEntry → List Veneer
needed_by_header header e =
    if header && e.thumb then (record { region = 0; area = record { object = e.object; area = e.area }; offset = e.offset; thumb = true }) ∷ [] else []

abbrev pub is_same : Veneer → Veneer → Bool
is_same v w =
    v.region == w.region && (v.area.object == w.area.object && (v.area.area == w.area.area && (v.offset == w.offset && not (other_state v.thumb w.thumb))))

-- each once, at its first place
abbrev pub first_needs : List Veneer → List Veneer → List Veneer
first_needs seen [] = []
first_needs seen (v ∷ vs) = if list_any (is_same v) seen then first_needs seen vs else v ∷ first_needs (v ∷ seen) vs

-- of the areas of each region
abbrev pub veneers_of : Link → List (List AreaName) → Bool → List Veneer
veneers_of l regions header = first_needs [] (needed_by_header header l.entry ++ needed_from l 0 regions)

-- ---- what that means

abbrev pub IsIn : {A : Type 0} → List A → A → Type 0
IsIn xs x = (k : ℕ) × (slice_get xs k ≡ Some x)

-- a branch in an area of the veneer's region needs it
pub record BranchNeeds (l : Link) (regions : List (List AreaName)) (v : Veneer) : Type 0 where
  pub areas : List AreaName
  pub name : AreaName
  pub area : Area
  pub reloc : Reloc
  pub region : slice_get regions v.region ≡ Some areas
  pub assigned : IsIn areas name
  pub there : area_of l.objects name ≡ Some area
  pub relocates : IsIn area.relocs reloc
  pub needs : needed_by l v.region name area reloc ≡ Some v

abbrev pub IsNeeded : Link → List (List AreaName) → Bool → Veneer → Type 0
IsNeeded l regions header v = IsIn (needed_by_header header l.entry) v ⊎ BranchNeeds l regions v

-- one veneer for each region, target and direction that the header or a branch needs, and no others
pub record NeedLaw (l : Link) (regions : List (List AreaName)) (header : Bool) : Type 0 where
  pub each : (v : Veneer) → IsNeeded l regions header v → IsIn (veneers_of l regions header) v
  pub only : (v : Veneer) → IsIn (veneers_of l regions header) v → IsNeeded l regions header v
  pub once : (i j : ℕ) (v : Veneer) → slice_get (veneers_of l regions header) i ≡ Some v → slice_get (veneers_of l regions header) j ≡ Some v → i ≡ j

abbrev pub VeneersLaw : Type 0
VeneersLaw = (l : Link) (regions : List (List AreaName)) (header : Bool) → NeedLaw l regions header

-- a branch that has its field alone needs just the veneer that it goes by, wherever the areas stand and
-- whatever numbers the region symbols have
abbrev pub WaysLaw : Type 0
WaysLaw =
    (l : Link) (numbers : List ℕ → Option ℕ) (base_at : Bases) (region : ℕ) (a : AreaName) (area : Area) (r : Reloc) (thumb : Bool)
    → IsIn area.relocs r → kind_of r ≡ Branch thumb → is_alone area.relocs r ≡ true
    → (field_of r).place + 4 ≤ length area.bytes → IsBranch thumb (number_in area.bytes (field_of r))
    → needed_by l region a area r
    ≡ veneer_by region (way_of (base_at a.object a.area) (values_of l numbers base_at a.object) area.bytes (field_of r) thumb (directives area.relocs (field_of r)))
