-- Linked objects by one plan: what their names mean by it, where the program begins, and what a view of the plan shows of them
-- (SDT 2.50 Reference Guide, armlink; ARM Object Format; ARM Image Format; the startup code is this project's).
use Rattle.std.specs.Prelude.{◌≡◌, ◌≢◌, ℕ, ◌+◌, ◌%◌, ◌==◌, Bool, true, false, List, [], is_some, slice_get, Option, Some, None}
use Rattle.sdt_word.specs.Numbers.{bit, flag}
use Rattle.sdt_word.specs.declared.ranges.Range32.{Range32}
use Rattle.aof_object.specs.declared.records.Entry.{Entry}
use Rattle.aof_object.specs.declared.records.Object.{Object}
use Rattle.aof_object.specs.declared.records.Symbol.{Symbol}
use Rattle.aof_object.specs.Checks.{is_exported}
use Rattle.aof_object.specs.Flags.{is_weak}
use Rattle.boot_code.specs.Boots.{ByteMap, HoldsWord}
use Rattle.boot_code.specs.Maps.{bytes_of_words}
use Rattle.patch_model.specs.Fields.{Meant, Values}
use Rattle.place_model.specs.declared.scatter.Kind.{Kind}
use Rattle.place_model.specs.declared.scatter.Kind.TheVariants as kind
use Rattle.place_model.specs.Plans.{Plan, regions_of}
use Rattle.image_model.specs.AifFiles.{header_words}
use Rattle.image_model.specs.Regions.{Given, filled}
use Rattle.image_model.specs.Views.{IsView}
use Rattle.stand_model.specs.Placed.{IsPlaced, ShowsObject}
use Rattle.link_model.specs.declared.placing.Assigned.{Assigned}
use Rattle.link_model.specs.declared.placing.Veneer.{Veneer}
use Rattle.link_model.specs.declared.selection.Linked.{Linked}
use Rattle.link_model.specs.declared.selection.Named.{Named}
use Rattle.link_model.specs.Definitions.{definitions_from}
use Rattle.link_model.specs.Meaning.{meaning_of, symbol_of}
use Rattle.link_model.specs.Members.{link_of, objects_in}
use Rattle.link_model.specs.RegionValues.{region_number}
use Rattle.link_model.specs.Values.{unplaced}
use Rattle.link_model.specs.Veneers.{veneers_of}
use Rattle.link_items.specs.LinkedItems.{has_header}
use Rattle.link_place.specs.Placed.{placement_of}
use Rattle.link_laws.specs.Joins.{IsEntryOf}
use Rattle.link_laws.specs.Laws.{AreRanges}
use Rattle.link_laws.specs.Placing.{AreApplied, IsPlacedLink, bases_of, link_plan, meant_in, region_with, values_in, veneers_in}

-- ---- what is linked

-- the object of a number exports the name, by its symbol of a number
pub record IsExport (os : List (Named Object)) (name : List ℕ) (own k : ℕ) (s : Symbol) : Type 0 where
  pub object : Named Object
  pub there : slice_get os own ≡ Some object
  pub symbol : slice_get object.value.symbols k ≡ Some s
  pub exported : is_exported s.attributes ≡ true
  pub named : s.name ≡ name

-- a name is exported by one symbol of one object
abbrev pub AreExportedOnce : List (Named Object) → Type 0
AreExportedOnce os =
    (name : List ℕ) (own k other j : ℕ) (s t : Symbol) → IsExport os name own k s → IsExport os name other j t → (own ≡ other) × (k ≡ j)

abbrev pub NoneExports : List (Named Object) → List ℕ → Type 0
NoneExports os name = (own k : ℕ) (s : Symbol) → IsExport os name own k s → ⊥

-- the definitions are the objects' exports, and one object has an entry, whose state is that of its area
pub record IsSelection (l : Linked) : Type 0 where
  pub definitions : l.definitions ≡ definitions_from 0 (objects_in l.objects)
  pub once : AreExportedOnce l.objects
  pub entered : IsEntryOf l
  pub only : (other : ℕ) (o : Named Object) (e : Entry) → slice_get l.objects other ≡ Some o → o.value.entry ≡ Some e
      → other ≡ l.entry.object

-- ---- what names mean

-- the numbers of region symbols where regions and areas stand by a plan
abbrev pub numbers_by : Plan → List (Named Object) → List ℕ → Option ℕ
numbers_by plan os = region_number (objects_in os) (placement_of plan)

-- the values of the symbols of the object of a number
abbrev pub values_by : Plan → Linked → ℕ → Values
values_by plan l own = values_in plan l (numbers_by plan l.objects) own

-- A name that is referred to has the value of the symbol that exports it: of one that stands in an area the base of that area
-- plus its offset, in its state. Where no linked object exports it, it has the number of the region symbol of the name. One
-- that is neither is weak: it is 0 and stands nowhere, so that a branch to it stays in its own state.
pub record IsMeaning (plan : Plan) (os : List (Named Object)) (s : Symbol) (m : Meant) : Type 0 where
  pub defined : (own k : ℕ) (d : Symbol) → IsExport os s.name own k d → m ≡ meant_in plan own (Some d)
  pub of_region : NoneExports os s.name → (n : ℕ) → numbers_by plan os s.name ≡ Some n → m ≡ unplaced n false false
  pub of_none : NoneExports os s.name → numbers_by plan os s.name ≡ None → (is_weak s.attributes ≡ true) × (m ≡ unplaced 0 false false)

-- a definition has its own value, and a reference that of its name
abbrev pub IsMeantBy : Bool → Plan → List (Named Object) → ℕ → Symbol → Meant → Type 0
IsMeantBy true plan os own s m = m ≡ meant_in plan own (Some s)
IsMeantBy false plan os own s m = IsMeaning plan os s m

abbrev pub NamesMean : Plan → Linked → Type 0
NamesMean plan l =
    (own k : ℕ) (o : Named Object) (s : Symbol) → slice_get l.objects own ≡ Some o → slice_get o.value.symbols k ≡ Some s
    → IsMeantBy (bit s.attributes 0 == 1) plan l.objects own s ((values_by plan l own).symbol k)

-- each symbol has a meaning there: a reference that isn't weak is exported by an object, or is a region symbol
abbrev pub AreMeant : Plan → Linked → Type 0
AreMeant plan l =
    (own k : ℕ) (s : Symbol) → symbol_of (objects_in l.objects) own k ≡ Some s → s.attributes % 4 ≢ 0
    → is_some (meaning_of l.definitions (numbers_by plan l.objects) own k s) ≡ true

-- ---- where the program begins: the base of the area that has the entry, and the entry's offset

abbrev pub entry_by : Plan → Linked → ℕ
entry_by plan l = bases_of plan l.entry.object l.entry.area + l.entry.offset

-- what the header of an ARM image file calls: the entry, or, where that is Thumb code, the veneer in the first region which
-- leads to it
abbrev pub call_by : Bool → Plan → Linked → Option ℕ
call_by false plan l = Some (entry_by plan l)
call_by true plan l =
    veneers_in (slice_get (regions_of plan) 0) (record { object = l.entry.object; area = l.entry.area; offset = l.entry.offset }) true

abbrev pub IsCalledBy : Kind → Plan → Linked → ℕ → Type 0
IsCalledBy (kind.Aif base relocatable) plan l call = call_by l.entry.thumb plan l ≡ Some call
IsCalledBy other plan l call = Unit {0}

-- ---- what memory shows

-- An object is placed by the plan, and the view shows it there: its symbols have the plan's values, its areas the plan's bases
-- and the ranges of the plan's regions, and its branches go by the veneers of these regions.
pub record IsShownBy (plan : Plan) (l : Linked) (own : ℕ) (o : Object) (view : ByteMap) : Type 0 where
  pub placed : IsPlaced own o (values_by plan l own) (bases_of plan)
  pub ranges : (region : ℕ → Range32) × AreRanges plan own region
  pub shown : (region : ℕ → Range32) → AreRanges plan own region
      → ShowsObject view o (values_by plan l own) (bases_of plan) region (λ area. veneers_in (region_with plan own area))

-- the header of an ARM image file as the program sees it
abbrev pub header_by : Kind → Plan → Given → List ℕ
header_by (kind.Aif base relocatable) plan g = bytes_of_words (header_words false plan base g.call)
header_by other plan g = []

-- it calls no relocator (0xE1A00000 is MOV r0, r0, which does nothing), and names the address where it is
abbrev pub IsMarked : Kind → ByteMap → Type 0
IsMarked (kind.Aif base relocatable) view = HoldsWord view (base + 0x04) 0xE1A00000 × HoldsWord view (base + 0x28) base
IsMarked other view = Unit {0}

-- The view is that of the plan, with a byte exactly at the addresses of its execution ranges with their zero parts: there stand
-- the patched bytes of areas, the veneers, the header, and in a scatter image the startup code with its table; gaps and zero
-- parts are 0.
pub record AreSeenBy (k : Kind) (plan : Plan) (l : Linked) (view : ByteMap) : Type 0 where
  pub given : Given
  pub applied : AreApplied plan l (numbers_by plan l.objects) given
  pub entry : given.entry ≡ entry_by plan l + flag l.entry.thumb
  pub called : IsCalledBy k plan l given.call
  pub shows : IsView plan (filled given plan (header_by k plan given)) view
  pub marked : IsMarked k view
  pub objects : (own : ℕ) (o : Named Object) → slice_get l.objects own ≡ Some o → IsShownBy plan l own o.value view
  pub names : NamesMean plan l

-- ---- laws

-- a view of what is placed and patched is seen so
abbrev pub ViewsAreSeen : Type 0
ViewsAreSeen =
    (k : Kind) (ram : Option (List Range32)) (l : Linked) (a : Assigned) (vs : List Veneer) (g : Given) (view : ByteMap)
    → let plan : Plan = link_plan k l a.regions vs in
    IsPlacedLink k ram l a.regions vs → vs ≡ veneers_of (link_of l) a.regions (has_header k) → IsSelection l → AreMeant plan l
    → AreApplied plan l (numbers_by plan l.objects) g → g.entry ≡ entry_by plan l + flag l.entry.thumb → IsCalledBy k plan l g.call
    → IsView plan (filled g plan (header_by k plan g)) view → AreSeenBy k plan l view
