-- A view of an accepted plan shows the linked objects.
use Rattle.std.proofs.Common.{◌≡◌, ◌⊎◌, inl, inr, ℕ, suc, ◌+◌, ◌-◌, ◌%◌, ◌^◌, ◌<◌, ◌≤◌, Bool, true, false, not, ◌&&◌, ◌==◌, List, [], ◌∷◌, refl, sym, ap, subst, ◌∙◌, arith, eqb-true, Option, Some, None}
use Rattle.std.specs.Prelude.{slice_get, IsSomeAnd}
use Rattle.std.specs.List.{find, position_or_len, AllByRecursion}
use Rattle.std.specs.Option.{option_map}
use Rattle.std.proofs.lemmas.List.Folds.{find_at}
use Rattle.base_lemmas.proofs.BaseLemmas.{all_append, all_weaker, both_true, same}
use Rattle.sdt_word.specs.Numbers.{bit}
use Rattle.sdt_word.specs.Ranges.{Covers}
use Rattle.sdt_word.specs.declared.ranges.Range32.{Range32}
use Rattle.aof_object.specs.declared.records.Area.{Area}
use Rattle.aof_object.specs.declared.records.Object.{Object}
use Rattle.boot_code.specs.Boots.{ByteMap}
use Rattle.boot_code.specs.Startup.{zeros}
use Rattle.boot_code.proofs.ViewLemmas.{length-zeros, get_or-zeros}
use Rattle.boot_code.specs.Maps.{Holds}
use Rattle.patch_model.specs.Fields.{Home, Values}
use Rattle.patch_model.specs.Patched.{other_state, AreaPatched}
use Rattle.patch_model.specs.Reaches.{Shows, IsVeneer, VeneersStand}
use Rattle.patch_model.proofs.VeneerLemmas.{veneer_law}
use Rattle.place_model.specs.declared.scatter.Kind.{Kind}
use Rattle.place_model.specs.Items.{is_zero_initialised}
use Rattle.place_model.specs.Plans.{Planned, zero_base_of, zero_length_of, execution_size, end_of, Plan, regions_of, stood_in, is_area}
use Rattle.place_model.specs.Things.{Thing, Header, AnArea, AVeneer, Startup, size_of, Stood, stood}
use Rattle.place_model.proofs.ListLemmas.{all_at, all_indexed}
use Rattle.image_model.specs.Regions.{Given, Filling, AreSized, filled}
use Rattle.image_model.specs.Views.{IsView}
use Rattle.image_laws.proofs.ViewLemmas.{view_things}
use Rattle.link_model.specs.declared.placing.AreaName.{AreaName}
use Rattle.link_model.specs.declared.placing.Veneer.{Veneer}
use Rattle.link_model.specs.declared.selection.Linked.{Linked}
use Rattle.link_model.specs.declared.selection.Named.{Named}
use Rattle.link_items.specs.LinkedItems.{item_of}
use Rattle.stand_model.specs.Placed.{ShowsBy, ShowsArea, ShowsObject}
use Rattle.link_laws.specs.Placing.{bases_of, region_with, IsRange, has_area, is_veneer, veneers_in, link_plan, IsPlacedLink, values_in, IsVeneerApplied, AreApplied}
use Rattle.link_laws.specs.Laws.{AreRanges, RangesExist, ObjectsAreShown, StatementsStand}
use Rattle.link_laws.proofs.ListLemmas.{found_all}
use Rattle.link_laws.proofs.RegionLemmas.{IsWithin}
use Rattle.link_laws.proofs.PlacedLemmas.{IsLoaded, IsCleared, room, loaded, cleared, found, is_item, objects_are_placed, full_base}
use Rattle.link_laws.proofs.SizedLemmas.{applied_are_sized}
use Rattle.aof_object.specs.Validity.{IsValid}
use Rattle.link_laws.proofs.ReducedLemmas.{bytes_le, shows_at}

-- ---- bytes

holds_shows : (m : ByteMap) (a : ℕ) (bytes : List ℕ) → Holds m a bytes → Shows m a bytes
holds_shows m a [] h = tt
holds_shows m a (b ∷ bytes) h =
    let here : a + 0 ≡ a = omega arith in (
      ap m (sym here) ∙ h 0 (omega arith),
      holds_shows m (suc a) bytes (λ n lt. let there : suc a + n ≡ a + suc n = omega arith in ap m there ∙ h (suc n) (omega arith)),
    )

zero_at : (m : ByteMap) (a n x : ℕ) → Holds m a (zeros n) → a ≤ x → x < a + n → m x ≡ Some 0
zero_at m a n x h low high =
    let back : a + (x - a) ≡ x = omega arith in
    ap m (sym back) ∙ h (x - a) (omega (arith, length-zeros n)) ∙ ap Some (get_or-zeros n (x - a))

-- ---- regions

range_of : (o : Option Planned) → ((r : Planned) → o ≡ Some r → end_of r ≤ 2 ^ 32) → (range : Range32) × IsRange o range
range_of None h = (record { base = 0; size = 0; in_space = omega arith }, tt)
range_of (Some r) h = (record { base = r.base; size = execution_size r; in_space = h r refl }, (refl, refl))

found_place : (test : Planned → Bool) (rs : List Planned) (r : Planned) → find test rs ≡ Some r → slice_get rs (position_or_len test rs) ≡ Some r
found_place test rs r h = sym (find_at test rs) ∙ h

pub same_state : (a b : Bool) → not (other_state a b) ≡ true → a ≡ b
same_state true true e = refl
same_state true false e = absurd cc
same_state false true e = absurd cc
same_state false false e = refl

veneer_size : (target : Home) (b : Bool) → 0 < size_of (AVeneer target b)
veneer_size target true = omega arith
veneer_size target false = omega arith

-- a thing that is loaded, with its bytes
pub record IsShownThing (p : Plan) (g : Given) (held : Filling) (view : ByteMap) (os : List (Named Object)) (r : Planned) (s : Stood) : Type 0 where
  pub within : IsWithin (IsLoaded os) r.base (zero_base_of r) s
  pub holds : Holds view s.address (held r s.thing)
  pub veneer : IsVeneerApplied p g r s.address s.thing

module _ (k : Kind) (ram : Option (List Range32)) (l : Linked) (regions : List (List AreaName)) (veneers : List Veneer) (numbers : List ℕ → Option ℕ)
    (g : Given) (header : List ℕ) (view : ByteMap)
    (h : IsPlacedLink k ram l regions veneers) (applied : AreApplied (link_plan k l regions veneers) l numbers g)
    (sized : AreSized (filled g (link_plan k l regions veneers) header) (link_plan k l regions veneers))
    (shown : IsView (link_plan k l regions veneers) (filled g (link_plan k l regions veneers) header) view) where
  abbrev p : Plan
  p = link_plan k l regions veneers

  abbrev held : Filling
  held = filled g p header

  abbrev IsThere : Planned → Stood → Type 0
  IsThere r s = IsShownThing p g held view l.objects r s ⊎ IsWithin (IsCleared l.objects) (zero_base_of r) (end_of r) s

  there_all : (n : ℕ) (r : Planned) → slice_get (regions_of p) n ≡ Some r → AllByRecursion (IsThere r) (stood_in r)
  there_all n r at =
      let things : List Stood = stood r.origin r.base r.things in
      let holds : AllByRecursion (λ s. Holds view s.address (held r s.thing)) things =
      all_at (λ q. AllByRecursion (λ s. Holds view s.address (held q s.thing)) (stood q.origin q.base q.things)) (regions_of p) n r (view_things p held view sized shown) at in
      let own : AllByRecursion (λ s. IsVeneerApplied p g r s.address s.thing) things =
      all_at (λ q. AllByRecursion (λ s. IsVeneerApplied p g q s.address s.thing) (stood q.origin q.base q.things)) (regions_of p) n r applied.veneers at in
      all_append (IsThere r) things (stood r.origin (zero_base_of r) r.zeros)
      (all_indexed (IsThere r) things (λ i s there. inl (record {
        within = all_at (IsWithin (IsLoaded l.objects) r.base (zero_base_of r)) things i s (loaded k ram l regions veneers h n r at) there;
        holds = all_at (λ q. Holds view q.address (held r q.thing)) things i s holds there;
        veneer = all_at (λ q. IsVeneerApplied p g r q.address q.thing) things i s own there;
      })))
      (all_weaker (IsWithin (IsCleared l.objects) (zero_base_of r) (end_of r)) (IsThere r) (λ s x. inr x) (stood r.origin (zero_base_of r) r.zeros) (cleared k ram l regions veneers h n r at))

  -- ---- veneers

  abbrev IsThereVeneer : Range32 → Home → Bool → ℕ → Type 0
  IsThereVeneer range target state v = Covers range v × IsVeneer view v ((bases_of p target.object target.area + target.offset) % 2 ^ 32) state

  veneer_there : (r : Planned) (range : Range32) → IsRange (Some r) range → (target : Home) (state : Bool) (t : Thing) (a : ℕ) → is_veneer target state t ≡ true
      → r.base ≤ a → a + size_of t ≤ zero_base_of r → Holds view a (held r t) → IsVeneerApplied p g r a t → IsThereVeneer range target state a
  veneer_there r range is target state Header a e from below holds own = absurd cc
  veneer_there r range is target state (AnArea i) a e from below holds own = absurd cc
  veneer_there r range is target state (Startup n) a e from below holds own = absurd cc
  veneer_there r range is target state (AVeneer t b) a e from below holds own =
      let (object, rest) = both_true (t.object == target.object) (t.area == target.area && (t.offset == target.offset && not (other_state b state))) e in
      let (area, more) = both_true (t.area == target.area) (t.offset == target.offset && not (other_state b state)) rest in
      let (offset, side) = both_true (t.offset == target.offset) (not (other_state b state)) more in
      let by_object : t.object ≡ target.object = eqb-true t.object target.object object in
      let by_area : t.area ≡ target.area = eqb-true t.area target.area area in
      let by_offset : t.offset ≡ target.offset = eqb-true t.offset target.offset offset in
      let by_state : b ≡ state = same_state b state side in
      let address : (bases_of p t.object t.area + t.offset) % 2 ^ 32 ≡ (bases_of p target.object target.area + target.offset) % 2 ^ 32 = cc in
      let enters : IsVeneer view a ((bases_of p t.object t.area + t.offset) % 2 ^ 32) b =
      veneer_law.reads view a ((bases_of p t.object t.area + t.offset) % 2 ^ 32) b (g.veneer r.number t b) (holds_shows view a (g.veneer r.number t b) holds) own in
      let size = veneer_size t b in
      let base = is.0 in let long = is.1 in (
        record { from_base = omega (arith, base, from); below_end = omega (arith, base, long, size, below) },
        subst (λ (x : ℕ). IsVeneer view a x state) address (subst (λ (s : Bool). IsVeneer view a ((bases_of p t.object t.area + t.offset) % 2 ^ 32) s) by_state enters),
      )

  veneers_stand : (o : Option Planned) (range : Range32) → IsRange o range → ((r : Planned) → o ≡ Some r → (n : ℕ) × (slice_get (regions_of p) n ≡ Some r))
      → VeneersStand view range (bases_of p) (veneers_in o)
  veneers_stand None range is at target state v e = absurd cc
  veneers_stand (Some r) range is at target state v e = go (find (λ s. is_veneer target state s.thing) (stood_in r)) refl e (at r refl)
    where
      no_area : {X : Type 0} (t : Thing) → is_veneer target state t ≡ true → IsCleared l.objects t → X
      no_area Header named x = absurd x
      no_area (AnArea i) named x = absurd cc
      no_area (AVeneer target b) named x = absurd x
      no_area (Startup n) named x = absurd x

      by_part : (s : Stood) → IsThere r s → is_veneer target state s.thing ≡ true → IsThereVeneer range target state s.address
      by_part s (inl x) named = veneer_there r range is target state s.thing s.address named x.within.from x.within.below x.holds x.veneer
      by_part s (inr x) named = no_area s.thing named x.holds

      go : (o : Option Stood) → find (λ s. is_veneer target state s.thing) (stood_in r) ≡ o → option_map (λ s. s.address) o ≡ Some v
          → (n : ℕ) × (slice_get (regions_of p) n ≡ Some r) → IsThereVeneer range target state v
      go None f e (n, at) = absurd cc
      go (Some s) f e (n, at) =
          let (there, named) = found_all (IsThere r) (λ s. is_veneer target state s.thing) (stood_in r) s (there_all n r at) f in
          let own : s.address ≡ v = same s.address v e in
          subst (IsThereVeneer range target state) own (by_part s there named)

  -- ---- areas

  module _ (own : ℕ) (o : Named Object) (here : slice_get l.objects own ≡ Some o) where
    abbrev values : Values
    values = values_in p l numbers own

    area_shown : (area : ℕ) (a : Area) → slice_get o.value.areas area ≡ Some a → ShowsArea view o.value area a values (veneers_in (region_with p own area))
    area_shown area a there =
        let f = found k ram l regions veneers h own o here area a there in
        let (x, named) = found_all (IsThere f.owner) (λ s. is_area own area s.thing) (stood_in f.owner) f.spot (there_all f.place f.owner f.at) f.there in
        by_kind f.owner f.place f.at f.spot (full_base k ram l regions veneers h own o here area a there) named x (bit a.attributes 12 == 1) refl
      where
        is : (t : Thing) → is_area own area t ≡ true → IsLoaded l.objects t ⊎ IsCleared l.objects t → t ≡ AnArea (item_of own o.«module» area a)
        is = is_item k ram l regions veneers h own o here area a there

        by_kind : (r : Planned) (n : ℕ) → slice_get (regions_of p) n ≡ Some r → (s : Stood) → (0 < a.size → bases_of p own area ≡ s.address) → is_area own area s.thing ≡ true → IsThere r s
            → (b : Bool) → bit a.attributes 12 == 1 ≡ b → ShowsBy b view o.value area a values (veneers_in (region_with p own area))
        by_kind r n at s base named (inl x) true e =
            let item = is s.thing named (inl x.within.holds) in
            let filled_in : is_zero_initialised (item_of own o.«module» area a) ≡ false = (subst (IsLoaded l.objects) item x.within.holds).1 in
            let no : true ≡ false = sym e ∙ filled_in in absurd cc
        by_kind r n at s base named (inl x) false e =
            let item = is s.thing named (inl x.within.holds) in
            let bytes : Holds view s.address (g.area own area) = subst (λ (t : Thing). Holds view s.address (held r t)) item x.holds in
            let own_bytes = applied.areas own area o a here there e in
            let patched = subst (λ (z : Option Area). IsSomeAnd z (λ (b : Area). AreaPatched b.relocs b.bytes (bases_of p own area) values (veneers_in (region_with p own area)) (g.area own area))) there own_bytes in
            let size = patched.size in
            let fits = bytes_le o.value (all_at (λ (q : Named Object). IsValid q.value) l.objects own o h.valid here) area a there in
            (g.area own area, own_bytes, shows_at view s.address (bases_of p own area) (g.area own area) (λ some. base (omega (arith, some, size, fits))) (holds_shows view s.address (g.area own area) bytes))
        by_kind r n at s base named (inr x) true e =
            let item = is s.thing named (inr x.holds) in
            let size : size_of s.thing ≡ a.size = ap size_of item in
            let from = x.from in let below = x.below in
            let zero = all_at (λ q. Holds view (zero_base_of q) (zeros (zero_length_of q))) (regions_of p) n r shown.cleared at in
            λ i lt. let at_base = base (omega (arith, lt)) in
            zero_at view (zero_base_of r) (zero_length_of r) (bases_of p own area + i) zero (omega (arith, at_base, from)) (omega (arith, at_base, below, size, lt))
        by_kind r n at s base named (inr x) false e =
            let item = is s.thing named (inr x.holds) in
            let none : is_zero_initialised (item_of own o.«module» area a) ≡ true = (subst (IsCleared l.objects) item x.holds).1 in
            let no : false ≡ true = sym e ∙ none in absurd cc

    place_of : (area : ℕ) (r : Planned) → region_with p own area ≡ Some r → (n : ℕ) × (slice_get (regions_of p) n ≡ Some r)
    place_of area r e = (position_or_len (has_area own area) (regions_of p), found_place (has_area own area) (regions_of p) r e)

    object_shown : (region : ℕ → Range32) → AreRanges p own region → ShowsObject view o.value values (bases_of p) region (λ area. veneers_in (region_with p own area))
    object_shown region is = record { areas = area_shown; veneers_stand = λ area. veneers_stand (region_with p own area) (region area) (is area) (place_of area) }

-- ---- the laws

pub ranges_exist : RangesExist
ranges_exist k ram l regions veneers h own = (λ area. (range area).0, λ area. (range area).1)
  where
    range : (area : ℕ) → (range : Range32) × IsRange (region_with (link_plan k l regions veneers) own area) range
    range area =
        range_of (region_with (link_plan k l regions veneers) own area)
        (λ r e. room k ram l regions veneers h _ r (found_place (has_area own area) (regions_of (link_plan k l regions veneers)) r e))

pub objects_are_shown : ObjectsAreShown
objects_are_shown k ram l regions veneers numbers g header view h applied headed shown own o here =
    object_shown k ram l regions veneers numbers g header view h applied (applied_are_sized k ram l regions veneers numbers g header h applied headed) shown own o here

pub statements_stand : StatementsStand
statements_stand k ram l regions veneers numbers g header view h applied headed shown own o here region is statements always =
    let p : Plan = link_plan k l regions veneers in
    always own (values_in p l numbers own) (bases_of p) view region (λ area. veneers_in (region_with p own area)) (objects_are_placed k ram l regions veneers numbers h own o here)
    (objects_are_shown k ram l regions veneers numbers g header view h applied headed shown own o here region is)
