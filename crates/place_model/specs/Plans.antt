-- Where regions, and what is in them, stand, for each size of the startup code's table, in whole numbers that
-- no width bounds (SDT 2.50 Reference Guide, scatter loading; the startup code is this project's).
use Rattle.std.specs.Prelude.{◌≡◌, ℕ, zero, suc, ◌+◌, ◌*◌, ◌<◌, Bool, true, false, not, ◌&&◌, nat_lt, nat_le, ◌==◌, if◌then◌else◌, List, [], ◌∷◌, ◌++◌, length, map, slice_get, unwrap_or, sum_by, Option}
use Rattle.std.specs.List.{filter, flat_map, find}
use Rattle.std.specs.Option.{option_map}
use Rattle.patch_model.specs.Fields.{Home}
use Rattle.boot_code.specs.declared.rows.CopyRow.{CopyRow}
use Rattle.boot_code.specs.declared.rows.ZeroRow.{ZeroRow}
use Rattle.place_model.specs.declared.scatter.Kind.{Kind}
use Rattle.place_model.specs.declared.scatter.Kind.TheVariants as kind
use Rattle.place_model.specs.declared.scatter.ScatterBase.{ScatterBase}
use Rattle.place_model.specs.declared.scatter.ScatterBase.TheVariants.{At, Plus}
use Rattle.place_model.specs.declared.scatter.ScatterLoad.{ScatterLoad}
use Rattle.place_model.specs.declared.scatter.ScatterRegion.{ScatterRegion}
use Rattle.place_model.specs.Items.{Item, is_zero_initialised}
use Rattle.place_model.specs.Assignment.{description, described_regions}
use Rattle.place_model.specs.Things.{Thing, Header, AnArea, AVeneer, Startup, Stood, extent, stood}

-- ---- what is placed

-- a veneer that branches of a region need, by its target and the target's state
pub record RegionVeneer : Type 0 where
  pub region : ℕ
  pub target : Home
  pub thumb : Bool

-- the areas of each region in their order, and the veneers in order of first need
pub record Contents : Type 0 where
  pub areas : List (List Item)
  pub veneers : List RegionVeneer

abbrev pub areas_in : Contents → ℕ → List Item
areas_in c region = unwrap_or (slice_get c.areas region) []

abbrev pub veneers_in : Contents → ℕ → List Thing
veneers_in c region = map (λ v. AVeneer v.target v.thumb) (filter (λ v. v.region == region) c.veneers)

-- the header is the first thing of an AIF
abbrev pub header_in : Kind → ℕ → List Thing
header_in (kind.Aif base relocatable) zero = Header ∷ []
header_in _ _ = []

-- the startup code is the last thing of a scatter image's first region
abbrev pub startup_in : Kind → ℕ → ℕ → List Thing
startup_in (kind.Scatter s) zero words = Startup words ∷ []
startup_in _ _ words = []

-- in a relocatable AIF alignment counts from the image's base
abbrev pub origin_of : Kind → ℕ
origin_of (kind.Aif base relocatable) = if relocatable then base else 0
origin_of _ = 0

-- ---- regions

-- an execution region with its number: its load and execution addresses, what stands in it, and the areas of the zero part
-- behind that
pub record Planned : Type 0 where
  pub number : ℕ
  pub name : List ℕ
  pub maximum : Option ℕ
  pub origin : ℕ
  pub load : ℕ
  pub base : ℕ
  pub things : List Thing
  pub zeros : List Thing

-- how many bytes of it are loaded, and how many its zero part has, which begins directly behind them
abbrev pub length_of : Planned → ℕ
length_of r = extent r.origin r.base r.things

abbrev pub zero_base_of : Planned → ℕ
zero_base_of r = r.base + length_of r

abbrev pub zero_length_of : Planned → ℕ
zero_length_of r = extent r.origin (zero_base_of r) r.zeros

abbrev pub execution_size : Planned → ℕ
execution_size r = length_of r + zero_length_of r

abbrev pub end_of : Planned → ℕ
end_of r = r.base + execution_size r

abbrev pub base_behind : ScatterBase → ℕ → ℕ
base_behind (At address) before = address
base_behind (Plus offset) before = before + offset

-- the region of a number, behind the end of the one before it, with its load address
abbrev pub planned : Kind → Contents → ℕ → ℕ → ScatterRegion → ℕ → ℕ → Planned
planned k c words region r before load = record {
  number = region;
  name = r.name;
  maximum = r.max;
  origin = origin_of k;
  load = load;
  base = base_behind r.base before;
  things = header_in k region ++ (map AnArea (filter (λ i. not (is_zero_initialised i)) (areas_in c region)) ++ (veneers_in c region ++ startup_in k region words));
  zeros = map AnArea (filter is_zero_initialised (areas_in c region));
}

-- the regions of a load region, counted from a number on: their load addresses follow each other by length
abbrev pub planned_from : Kind → Contents → ℕ → ℕ → List ScatterRegion → ℕ → ℕ → List Planned
planned_from k c words region [] before load = []
planned_from k c words region (r ∷ regions) before load =
    let p : Planned = planned k c words region r before load in
    p ∷ planned_from k c words (suc region) regions (end_of p) (load + length_of p)

-- ---- load regions

pub record PlannedLoad : Type 0 where
  pub name : List ℕ
  pub maximum : Option ℕ
  pub base : ℕ
  pub regions : List Planned

abbrev pub load_size : PlannedLoad → ℕ
load_size l = sum_by length_of l.regions

abbrev pub loads_from : Kind → Contents → ℕ → ℕ → List ScatterLoad → List PlannedLoad
loads_from k c words region [] = []
loads_from k c words region (l ∷ loads) =
    (record { name = l.name; maximum = l.max; base = l.base; regions = planned_from k c words region l.regions l.base l.base })
    ∷ loads_from k c words (region + length l.regions) loads

-- ---- the plan for a table of so many words

abbrev pub Plan : Type 0
Plan = List PlannedLoad

abbrev pub plan_for : Kind → Contents → ℕ → Plan
plan_for k c words = loads_from k c words 0 (description k)

abbrev pub regions_of : Plan → List Planned
regions_of p = flat_map (λ l. l.regions) p

-- a root region runs where it is loaded; the others are copied, if they have bytes
abbrev pub is_root : Planned → Bool
is_root r = r.load == r.base

abbrev pub is_copied : Planned → Bool
is_copied r = not (is_root r) && nat_lt 0 (length_of r)

abbrev pub is_cleared : Planned → Bool
is_cleared r = nat_lt 0 (zero_length_of r)

abbrev pub copied_regions : Plan → List Planned
copied_regions p = filter is_copied (regions_of p)

abbrev pub copy_row : Planned → CopyRow
copy_row r = record { source = r.load; target = r.base; size = length_of r }

abbrev pub zero_row : Planned → ZeroRow
zero_row r = record { base = zero_base_of r; size = zero_length_of r }

-- the rows of the startup code's table: of what has no bytes there is none
abbrev pub copies_of : Plan → List CopyRow
copies_of p = map copy_row (copied_regions p)

abbrev pub parts_of : Plan → List ZeroRow
parts_of p = map zero_row (filter is_cleared (regions_of p))

-- ---- the least table

-- the rows, two rows of zeros and the entry fit into so many words
abbrev pub has_room : Plan → ℕ → Bool
has_room p words = nat_le (3 * length (copies_of p) + 2 * length (parts_of p) + 6) words

abbrev pub suffices : Kind → Contents → ℕ → Bool
suffices k c words = has_room (plan_for k c words) words

-- a region's being root can depend on the size of the table itself
pub record IsLeastTable (k : Kind) (c : Contents) (words : ℕ) : Type 0 where
  pub enough : suffices k c words ≡ true
  pub least : (fewer : ℕ) → fewer < words → suffices k c fewer ≡ false

-- the first number from a given one on that passes, if it is among so many
abbrev pub first_from : (ℕ → Bool) → ℕ → ℕ → ℕ
first_from passes n zero = n
first_from passes n (suc more) = if passes n then n else first_from passes (suc n) more

-- a region has at most five words of rows
abbrev pub table_words : Kind → Contents → ℕ
table_words (kind.Scatter s) c = first_from (suffices (kind.Scatter s) c) 0 (5 * length (described_regions (kind.Scatter s)) + 6)
table_words _ c = 0

abbrev pub plan_of : Kind → Contents → Plan
plan_of k c = plan_for k c (table_words k c)

-- ---- where things stand

abbrev pub stood_in : Planned → List Stood
stood_in r = stood r.origin r.base r.things ++ stood r.origin (zero_base_of r) r.zeros

abbrev pub address_of : (Thing → Bool) → List Stood → Option ℕ
address_of test things = option_map (λ s. s.address) (find (λ s. test s.thing) things)

abbrev pub is_area : ℕ → ℕ → Thing → Bool
is_area object area (AnArea i) = i.object == object && i.area == area
is_area object area _ = false

abbrev pub area_address : Plan → ℕ → ℕ → Option ℕ
area_address p object area = address_of (is_area object area) (flat_map stood_in (regions_of p))

abbrev pub is_startup : Thing → Bool
is_startup (Startup words) = true
is_startup _ = false

-- the startup code is entered at its first word
abbrev pub boot_address : Plan → Option ℕ
boot_address p = address_of is_startup (flat_map stood_in (regions_of p))
