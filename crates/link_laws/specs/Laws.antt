-- Linked objects whose plan is accepted are placed, and each view of it shows them, so that the statements of their
-- sources stand there. This project's.
use Rattle.std.specs.Prelude.{◌≡◌, ℕ, List, slice_get, Option, Some}
use Rattle.sdt_word.specs.declared.ranges.Range32.{Range32}
use Rattle.aof_object.specs.declared.records.Object.{Object}
use Rattle.asm_model.specs.declared.statements.Statement.{Statement}
use Rattle.boot_code.specs.Boots.{ByteMap}
use Rattle.place_model.specs.declared.scatter.Kind.{Kind}
use Rattle.place_model.specs.Plans.{Plan}
use Rattle.image_model.specs.Regions.{Given, AreSized, filled}
use Rattle.image_model.specs.Views.{IsView}
use Rattle.link_model.specs.declared.placing.AreaName.{AreaName}
use Rattle.link_model.specs.declared.placing.Veneer.{Veneer}
use Rattle.link_model.specs.declared.selection.Linked.{Linked}
use Rattle.link_model.specs.declared.selection.Named.{Named}
use Rattle.source_model.specs.Objects.{source_of}
use Rattle.stand_model.specs.Placed.{IsPlaced, ShowsObject, HoldsWherePlaced}
use Rattle.stand_model.specs.Stands.{AllStand}
use Rattle.link_laws.specs.Placing.{bases_of, region_with, IsRange, veneers_in, link_plan, IsPlacedLink, values_in, AreApplied, IsHeaderOf}

-- each object is placed, whatever numbers the region symbols have
abbrev pub ObjectsArePlaced : Type 0
ObjectsArePlaced =
    (k : Kind) (ram : Option (List Range32)) (l : Linked) (regions : List (List AreaName)) (veneers : List Veneer) (numbers : List ℕ → Option ℕ)
    → IsPlacedLink k ram l regions veneers → (own : ℕ) (o : Named Object) → slice_get l.objects own ≡ Some o
    → IsPlaced own o.value (values_in (link_plan k l regions veneers) l numbers own) (bases_of (link_plan k l regions veneers))

-- each area of an object has the range of its region
abbrev pub AreRanges : Plan → ℕ → (ℕ → Range32) → Type 0
AreRanges p own region = (area : ℕ) → IsRange (region_with p own area) (region area)

abbrev pub RangesExist : Type 0
RangesExist =
    (k : Kind) (ram : Option (List Range32)) (l : Linked) (regions : List (List AreaName)) (veneers : List Veneer)
    → IsPlacedLink k ram l regions veneers → (own : ℕ) → (region : ℕ → Range32) × AreRanges (link_plan k l regions veneers) own region

-- things have as many bytes as they take up
abbrev pub AppliedAreSized : Type 0
AppliedAreSized =
    (k : Kind) (ram : Option (List Range32)) (l : Linked) (regions : List (List AreaName)) (veneers : List Veneer) (numbers : List ℕ → Option ℕ)
    (g : Given) (header : List ℕ)
    → IsPlacedLink k ram l regions veneers → AreApplied (link_plan k l regions veneers) l numbers g → IsHeaderOf k header
    → AreSized (filled g (link_plan k l regions veneers) header) (link_plan k l regions veneers)

-- a view shows each object
abbrev pub ObjectsAreShown : Type 0
ObjectsAreShown =
    (k : Kind) (ram : Option (List Range32)) (l : Linked) (regions : List (List AreaName)) (veneers : List Veneer) (numbers : List ℕ → Option ℕ)
    (g : Given) (header : List ℕ) (view : ByteMap)
    → IsPlacedLink k ram l regions veneers → AreApplied (link_plan k l regions veneers) l numbers g → IsHeaderOf k header
    → IsView (link_plan k l regions veneers) (filled g (link_plan k l regions veneers) header) view
    → (own : ℕ) (o : Named Object) → slice_get l.objects own ≡ Some o
    → (region : ℕ → Range32) → AreRanges (link_plan k l regions veneers) own region
    → ShowsObject view o.value (values_in (link_plan k l regions veneers) l numbers own) (bases_of (link_plan k l regions veneers)) region
    (λ area. veneers_in (region_with (link_plan k l regions veneers) own area))

-- so statements stand there that stand wherever their object is placed
abbrev pub StatementsStand : Type 0
StatementsStand =
    (k : Kind) (ram : Option (List Range32)) (l : Linked) (regions : List (List AreaName)) (veneers : List Veneer) (numbers : List ℕ → Option ℕ)
    (g : Given) (header : List ℕ) (view : ByteMap)
    → IsPlacedLink k ram l regions veneers → AreApplied (link_plan k l regions veneers) l numbers g → IsHeaderOf k header
    → IsView (link_plan k l regions veneers) (filled g (link_plan k l regions veneers) header) view
    → (own : ℕ) (o : Named Object) → slice_get l.objects own ≡ Some o
    → (region : ℕ → Range32) → AreRanges (link_plan k l regions veneers) own region
    → (statements : List Statement) → HoldsWherePlaced (AllStand (source_of statements)) o.value
    → AllStand (source_of statements) (values_in (link_plan k l regions veneers) l numbers own) view region
