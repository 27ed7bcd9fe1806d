-- Where an object is placed: its areas have bases, its symbols have values by them, and memory shows its areas with their
-- fields patched. SDT 2.50 Reference Guide, ARM Object Format.
use Rattle.std.specs.Prelude.{◌≡◌, ℕ, ◌+◌, ◌%◌, ◌^◌, ◌<◌, ◌≤◌, ◌==◌, Bool, true, false, List, slice_get, Some, None}
use Rattle.sdt_word.specs.Numbers.{bit}
use Rattle.sdt_word.specs.declared.ranges.Range32.{Range32}
use Rattle.aof_object.specs.declared.records.Area.{Area}
use Rattle.aof_object.specs.declared.records.Object.{Object}
use Rattle.aof_object.specs.declared.records.Symbol.{Symbol}
use Rattle.aof_object.specs.Checks.{is_placed}
use Rattle.patch_model.specs.Fields.{Meant, Values}
use Rattle.patch_model.specs.Laws.{StandsAt}
use Rattle.patch_model.specs.Patched.{Veneers, Patched}
use Rattle.patch_model.specs.Reaches.{View, Shows, VeneersStand}

-- ---- symbols

-- a symbol of an area has its address, by the area's base
pub record IsMeantIn (own : ℕ) (base : ℕ → ℕ) (y : Symbol) (m : Meant) (area : ℕ) : Type 0 where
  pub number : m.number % 2 ^ 32 ≡ (base area + y.value) % 2 ^ 32
  pub thumb : m.thumb ≡ (bit y.attributes 12 == 1)
  pub datum : m.datum ≡ (bit y.attributes 8 == 1)
  pub home : m.home ≡ Some (record { object = own; area = area; offset = y.value })

-- another definition is absolute and has its number, and a reference has any value
abbrev pub IsMeantBy : Bool → ℕ → (ℕ → ℕ) → Symbol → Meant → Type 0
IsMeantBy true own base y m = (area : ℕ) → y.area ≡ Some area → IsMeantIn own base y m area
IsMeantBy false own base y m = bit y.attributes 0 ≡ 1 → (m.number ≡ y.value) × (m.home ≡ None)

-- whether a symbol is placed is told by its attributes: others may name an area that says nothing
abbrev pub IsMeant : ℕ → (ℕ → ℕ) → Symbol → Meant → Type 0
IsMeant own base y m = IsMeantBy (is_placed y.attributes) own base y m

-- ---- the object

-- an object with a number of its own stands at bases that are multiples of 4, ends in memory, and its own symbols have
-- the values that its fields and the bases give; symbols stand where they say, by the addresses of all areas
pub record IsPlaced (own : ℕ) (o : Object) (values : Values) (area_at : ℕ → ℕ → ℕ) : Type 0 where
  pub aligned : (area : ℕ) (a : Area) → slice_get o.areas area ≡ Some a → values.base area % 4 ≡ 0
  pub ends : (area : ℕ) (a : Area) → slice_get o.areas area ≡ Some a → values.base area + a.size ≤ 2 ^ 32
  pub symbols : (k : ℕ) (y : Symbol) → slice_get o.symbols k ≡ Some y → IsMeant own values.base y (values.symbol k)
  pub homes : (k : ℕ) → StandsAt area_at (values.symbol k) (values.symbol k).home
  pub addresses : (area : ℕ) → area_at own area ≡ values.base area

-- ---- memory

abbrev pub ShowsZeros : View → ℕ → ℕ → Type 0
ShowsZeros view a n = (i : ℕ) → i < n → view (a + i) ≡ Some 0

-- an area of the object with its fields patched, or zeros where it is zero-initialised
abbrev pub ShowsBy : Bool → View → Object → ℕ → Area → Values → Veneers → Type 0
ShowsBy true view o area a values veneers = ShowsZeros view (values.base area) a.size
ShowsBy false view o area a values veneers = (out : List ℕ) × Patched o area values veneers out × Shows view (values.base area) out

abbrev pub ShowsArea : View → Object → ℕ → Area → Values → Veneers → Type 0
ShowsArea view o area a values veneers = ShowsBy (bit a.attributes 12 == 1) view o area a values veneers

-- memory shows all areas, and in the region of each the veneers that its branches go by
pub record ShowsObject (view : View) (o : Object) (values : Values) (area_at : ℕ → ℕ → ℕ) (region : ℕ → Range32)
    (veneers : ℕ → Veneers) : Type 0 where
  pub areas : (area : ℕ) (a : Area) → slice_get o.areas area ≡ Some a → ShowsArea view o area a values (veneers area)
  pub veneers_stand : (area : ℕ) → VeneersStand view (region area) area_at (veneers area)

-- wherever the object's areas and symbols are placed, this holds of their values and of each view of memory that shows
-- the object and the veneers that its branches go by
abbrev pub HoldsWherePlaced : (Values → View → (ℕ → Range32) → Type 0) → Object → Type 0
HoldsWherePlaced P o =
    (own : ℕ) (values : Values) (area_at : ℕ → ℕ → ℕ) (view : View) (region : ℕ → Range32) (veneers : ℕ → Veneers)
    → IsPlaced own o values area_at → ShowsObject view o values area_at region veneers → P values view region
