-- Objects whose plan is accepted are placed.
use Rattle.std.proofs.Common.{◌≡◌, ◌⊎◌, inl, inr, ℕ, ◌+◌, ◌%◌, ◌^◌, ◌<◌, ◌≤◌, Bool, true, false, not, ◌==◌, if◌then◌else◌, List, [], refl, sym, ap, subst, ◌∙◌, arith, eq-eqb, eqb-true, Option, Some, None}
use Rattle.std.specs.Prelude.{slice_get, unwrap_or}
use Rattle.std.specs.List.{find, list_any, position_or_len, AllByRecursion}
use Rattle.std.proofs.lemmas.List.Folds.{find_at}
use Rattle.std.specs.Option.{option_map, option_and_then}
use Rattle.std.proofs.lemmas.Option.{slice_get-map}
use Rattle.base_lemmas.proofs.BaseLemmas.{all_append, all_weaker, both_true, same}
use Rattle.sdt_word.specs.Numbers.{bit}
use Rattle.sdt_word.specs.declared.ranges.Range32.{Range32}
use Rattle.aof_object.specs.declared.records.Area.{Area}
use Rattle.aof_object.specs.declared.records.Object.{Object}
use Rattle.aof_object.specs.declared.records.Symbol.{Symbol}
use Rattle.aof_object.specs.Checks.{is_placed}
use Rattle.patch_model.specs.Fields.{Meant}
use Rattle.patch_model.specs.Laws.{StandsAt}
use Rattle.place_model.specs.declared.scatter.Kind.{Kind}
use Rattle.place_model.specs.Items.{Item, is_zero_initialised}
use Rattle.place_model.specs.Laws.{IsWholeRegion, IsWholeItem}
use Rattle.place_model.specs.Plans.{Contents, areas_in, Planned, zero_base_of, execution_size, end_of, Plan, regions_of, plan_of, table_words, stood_in, is_area, boot_address}
use Rattle.place_model.specs.Things.{Thing, Header, AnArea, AVeneer, Startup, size_of, Stood, stood}
use Rattle.place_model.proofs.GapLemmas.{IsWhole, whole_area, whole_header, whole_veneer, whole_startup}
use Rattle.place_model.proofs.ListLemmas.{all_at, all_of_get}
use Rattle.place_model.proofs.PlanLemmas.{whole_law, origin_whole}
use Rattle.image_laws.proofs.FileLemmas.{rooms}
use Rattle.link_model.specs.declared.placing.AreaName.{AreaName}
use Rattle.link_model.specs.declared.placing.Veneer.{Veneer}
use Rattle.link_model.specs.declared.selection.Linked.{Linked}
use Rattle.link_model.specs.declared.selection.Named.{Named}
use Rattle.link_model.specs.Meaning.{Meaning, Defined, OfRegion, Weak, meaning_of, symbol_of}
use Rattle.link_model.specs.Members.{objects_in, link_of}
use Rattle.link_model.specs.RegionValues.{reduced_by}
use Rattle.link_model.specs.Values.{Bases, home_area, meant_at, meant_of, meant_by, meaning_at}
use Rattle.link_model.specs.Veneers.{IsIn}
use Rattle.link_items.specs.LinkedItems.{item_of, items_in, item_at, name_of, contents_of}
use Rattle.link_values.specs.Placed.{reduced_meant}
use Rattle.stand_model.specs.Placed.{IsMeantIn, IsMeantBy, IsMeant}
use Rattle.link_laws.specs.Placing.{bases_of, region_with, link_plan, IsPlacedLink}
use Rattle.link_laws.specs.Laws.{ObjectsArePlaced}
use Rattle.link_laws.proofs.ReducedLemmas.{reduced_aligned, reduced_le, reduced_same, reduced_small, reduced_stands}
use Rattle.link_laws.proofs.ListLemmas.{in_front, in_back, any_in, found_all, first_of}
use Rattle.link_laws.proofs.ItemLemmas.{item_there, taken, IsOwn, items_own, own_whole}
use Rattle.link_laws.proofs.RegionLemmas.{IsShaped, all_shaped, numbered, things_all, header_all, startup_all, zeros_all, area_in, IsWithin, stood_within, stood_whole, stood_in_place}

-- ---- values

-- a symbol that stands in an area stands at its address
homes_stand : (os : List Object) (base_at : Bases) (m : Option Meaning) → StandsAt base_at (meant_by os base_at m) (meant_by os base_at m).home
homes_stand os base_at None = tt
homes_stand os base_at (Some Weak) = tt
homes_stand os base_at (Some (OfRegion n)) = tt
homes_stand os base_at (Some (Defined object k)) = by_symbol (symbol_of os object k)
  where
    by_area : (s : Symbol) (o : Option ℕ) → StandsAt base_at (meant_at base_at object s o) (meant_at base_at object s o).home
    by_area s None = tt
    by_area s (Some area) = refl

    by_symbol : (o : Option Symbol) → StandsAt base_at (meant_of base_at object o) (meant_of base_at object o).home
    by_symbol None = tt
    by_symbol (Some s) = by_area s (home_area s)

homes_reduced : (os : List Object) (base_at : Bases) (boot : Option ℕ) (m : Option Meaning) → StandsAt base_at (reduced_meant boot (meant_by os base_at m)) (meant_by os base_at m).home
homes_reduced os base_at boot m = reduced_stands base_at boot (meant_by os base_at m) (meant_by os base_at m).home (homes_stand os base_at m)

-- a definition is itself
defined_here : (l : Linked) (numbers : List ℕ → Option ℕ) (base_at : Bases) (own k : ℕ) (o : Named Object) (y : Symbol) → slice_get l.objects own ≡ Some o
    → slice_get o.value.symbols k ≡ Some y → bit y.attributes 0 == 1 ≡ true
    → meant_by (objects_in l.objects) base_at (meaning_at (link_of l) numbers own k) ≡ meant_at base_at own y (home_area y)
defined_here l numbers base_at own k o y at there defines =
    let object : slice_get (objects_in l.objects) own ≡ Some o.value = slice_get-map (λ x. x.value) l.objects own ∙ ap (option_map (λ x. x.value)) at in
    let symbol : symbol_of (objects_in l.objects) own k ≡ Some y = ap (option_and_then (λ x. slice_get x.symbols k)) object ∙ there in
    let means : meaning_of l.definitions numbers own k y ≡ Some (Defined own k) = rw defines refl in
    ap (meant_by (objects_in l.objects) base_at) (ap (option_and_then (meaning_of l.definitions numbers own k)) symbol ∙ means) ∙ ap (meant_of base_at own) symbol

is_meant : (own : ℕ) (boot : Option ℕ) (base_at : Bases) (y : Symbol) (m : Meant) → (bit y.attributes 0 == 1 ≡ true → m ≡ reduced_meant boot (meant_at base_at own y (home_area y)))
    → IsMeant own (base_at own) y m
is_meant own boot base_at y m defined = go (bit y.attributes 0 == 1) (bit y.attributes 2 == 0) refl refl
  where
    in_area : is_placed y.attributes ≡ true → m ≡ reduced_meant boot (meant_at base_at own y (home_area y)) → (area : ℕ) → y.area ≡ Some area → IsMeantIn own (base_at own) y m area
    in_area placed is area e =
        let home : home_area y ≡ Some area = rw placed e in
        let own_is : m ≡ reduced_meant boot (meant_at base_at own y (Some area)) = is ∙ ap (λ (z : Option ℕ). reduced_meant boot (meant_at base_at own y z)) home in
        subst (λ (x : Meant). IsMeantIn own (base_at own) y x area) (sym own_is) (record { number = reduced_same boot (base_at own area + y.value); thumb = refl; datum = refl; home = refl })

    absolute : is_placed y.attributes ≡ false → m ≡ reduced_meant boot (meant_at base_at own y (home_area y)) → (m.number ≡ y.value) × (m.home ≡ None)
    absolute placed is =
        let home : home_area y ≡ None = rw placed refl in
        let own_is : m ≡ reduced_meant boot (meant_at base_at own y None) = is ∙ ap (λ (z : Option ℕ). reduced_meant boot (meant_at base_at own y z)) home in
        (ap (λ (x : Meant). x.number) own_is, ap (λ (x : Meant). x.home) own_is)

    go : (d p : Bool) → bit y.attributes 0 == 1 ≡ d → bit y.attributes 2 == 0 ≡ p → IsMeantBy (if d then p else false) own (base_at own) y m
    go true true e f = in_area (rw e f) (defined e)
    go true false e f = λ h. absolute (rw e f) (defined e)
    go false p e f = λ h. absurd (grind arith)

-- ---- things of linked objects

not_true : (b : Bool) → not b ≡ true → b ≡ false
not_true true e = absurd cc
not_true false e = refl

-- what is loaded are areas that have bytes, and what is cleared are those that have none
abbrev pub IsLoaded : List (Named Object) → Thing → Type 0
IsLoaded os (AnArea i) = IsOwn os i × (is_zero_initialised i ≡ false)
IsLoaded os _ = Unit {0}

abbrev pub IsCleared : List (Named Object) → Thing → Type 0
IsCleared os (AnArea i) = IsOwn os i × (is_zero_initialised i ≡ true)
IsCleared os _ = ⊥

-- where an area stands
pub record IsFound (p : Plan) (own area : ℕ) : Type 0 where
  pub owner : Planned
  pub spot : Stood
  pub place : ℕ
  pub at : slice_get (regions_of p) place ≡ Some owner
  pub region : region_with p own area ≡ Some owner
  pub there : find (λ s. is_area own area s.thing) (stood_in owner) ≡ Some spot
  pub base : bases_of p own area ≡ reduced_by (boot_address p) spot.address

pub is_found : (p : Plan) (own area : ℕ) (r : Planned) → IsIn (regions_of p) r → list_any (λ s. is_area own area s.thing) (stood_in r) ≡ true → IsFound p own area
is_found p own area r there some =
    let test : Stood → Bool = λ s. is_area own area s.thing in
    let f = first_of test stood_in (regions_of p) r some there in
    record {
      owner = f.owner;
      spot = f.item;
      place = position_or_len (λ q. list_any test (stood_in q)) (regions_of p);
      at = sym (find_at (λ q. list_any test (stood_in q)) (regions_of p)) ∙ f.owns;
      region = f.owns;
      there = f.there;
      base = ap (λ (o : Option Stood). unwrap_or (option_map (reduced_by (boot_address p)) (option_map (λ s. s.address) o)) 0) f.first;
    }

module _ (k : Kind) (ram : Option (List Range32)) (l : Linked) (regions : List (List AreaName)) (veneers : List Veneer) (h : IsPlacedLink k ram l regions veneers) where
  abbrev os : List (Named Object)
  os = l.objects

  abbrev c : Contents
  c = contents_of os regions veneers

  abbrev words : ℕ
  words = table_words k c

  abbrev p : Plan
  p = plan_of k c

  abbrev rs : List Planned
  rs = regions_of p

  lists_own : AllByRecursion (λ areas. AllByRecursion (IsOwn os) areas) c.areas
  lists_own = items_own os regions veneers

  region_own : (n : ℕ) → AllByRecursion (IsOwn os) (areas_in c n)
  region_own n = all_of_get (λ areas. AllByRecursion (IsOwn os) areas) c.areas n [] tt lists_own

  whole_regions : AllByRecursion IsWholeRegion rs
  whole_regions =
      whole_law k c words (record {
        loads = h.loads;
        regions = h.bases;
        items = all_weaker (λ areas. AllByRecursion (IsOwn os) areas) (λ areas. AllByRecursion IsWholeItem areas) (λ areas all. all_weaker (IsOwn os) IsWholeItem (own_whole os h.valid) areas all) c.areas lists_own;
      })

  pub shaped : (n : ℕ) (r : Planned) → slice_get rs n ≡ Some r → IsShaped k c words r
  shaped n r at = all_at (IsShaped k c words) rs n r (all_shaped k c words) at

  pub room : (n : ℕ) (r : Planned) → slice_get rs n ≡ Some r → end_of r ≤ 2 ^ 32
  room n r at = all_at (λ q. q.base + execution_size q ≤ 2 ^ 32) rs n r (rooms k ram p h.accepted) at

  -- ---- the things of a region

  loaded_areas : (n : ℕ) → AllByRecursion (λ i. not (is_zero_initialised i) ≡ true → IsLoaded os (AnArea i)) (areas_in c n)
  loaded_areas n =
      all_weaker (IsOwn os) (λ i. not (is_zero_initialised i) ≡ true → IsLoaded os (AnArea i)) (λ i own e. (own, not_true (is_zero_initialised i) e)) (areas_in c n) (region_own n)

  pub loaded : (n : ℕ) (r : Planned) → slice_get rs n ≡ Some r → AllByRecursion (IsWithin (IsLoaded os) r.base (zero_base_of r)) (stood r.origin r.base r.things)
  loaded n r at =
      let things = things_all (IsLoaded os) k c words r (shaped n r at) (header_all (IsLoaded os) k r.number tt) (startup_all (IsLoaded os) k r.number words tt) (λ t b. tt) (loaded_areas r.number) in
      stood_within (IsLoaded os) r.origin r.base r.things r.base (zero_base_of r) (omega arith) (omega arith) things

  pub cleared : (n : ℕ) (r : Planned) → slice_get rs n ≡ Some r → AllByRecursion (IsWithin (IsCleared os) (zero_base_of r) (end_of r)) (stood r.origin (zero_base_of r) r.zeros)
  cleared n r at =
      let areas = all_weaker (IsOwn os) (λ i. is_zero_initialised i ≡ true → IsCleared os (AnArea i)) (λ i own e. (own, e)) (areas_in c r.number) (region_own r.number) in
      let zeros = zeros_all (IsCleared os) k c words r (shaped n r at) areas in
      stood_within (IsCleared os) r.origin (zero_base_of r) r.zeros (zero_base_of r) (end_of r) (omega arith) (omega arith) zeros

  pub aligned : (n : ℕ) (r : Planned) → slice_get rs n ≡ Some r → AllByRecursion (λ s. s.address % 4 ≡ 0) (stood_in r)
  aligned n r at =
      let own = all_weaker (IsOwn os) IsWholeItem (own_whole os h.valid) (areas_in c r.number) (region_own r.number) in
      let shape = shaped n r at in
      let origin : r.origin % 4 ≡ 0 = ap (λ (x : ℕ). x % 4) shape.origin ∙ origin_whole k h.loads in
      let whole = all_at IsWholeRegion rs n r whole_regions at in
      let things = things_all IsWhole k c words r shape (header_all IsWhole k r.number whole_header) (startup_all IsWhole k r.number words (whole_startup words)) whole_veneer (all_weaker IsWholeItem (λ i. not (is_zero_initialised i) ≡ true → IsWhole (AnArea i)) (λ i w e. whole_area i w) (areas_in c r.number) own) in
      let zeros = zeros_all IsWhole k c words r shape (all_weaker IsWholeItem (λ i. is_zero_initialised i ≡ true → IsWhole (AnArea i)) (λ i w e. whole_area i w) (areas_in c r.number) own) in
      let base = whole.base in let length = whole.loaded in
      all_append (λ s. s.address % 4 ≡ 0) (stood r.origin r.base r.things) (stood r.origin (zero_base_of r) r.zeros)
      (stood_whole r.origin r.base r.things origin base things)
      (stood_whole r.origin (zero_base_of r) r.zeros origin (omega (arith, base, length)) zeros)

  -- ---- one area

  module _ (own : ℕ) (o : Named Object) (here : slice_get os own ≡ Some o) (area : ℕ) (a : Area) (there : slice_get o.value.areas area ≡ Some a) where
    abbrev item : Item
    item = item_of own o.«module» area a

    names_it : is_area own area (AnArea item) ≡ true
    names_it = let e : (own == own) ≡ true = eq-eqb own own refl in let f : (area == area) ≡ true = eq-eqb area area refl in rw e (rw f refl)

    pub found : IsFound p own area
    found =
        let t = taken k (items_in os) c.areas h.assigned item (item_there os own o area a here there) in
        let list : areas_in c t.region ≡ t.items = ap (λ (z : Option (List Item)). unwrap_or z []) t.list in
        let n = numbered k c words t.region t.below in
        let r : Planned = n.region in
        let in_list : IsIn (areas_in c r.number) item = subst (λ (x : ℕ). IsIn (areas_in c x) item) (sym n.number) (subst (λ (xs : List Item). IsIn xs item) (sym list) t.there) in
        is_found p own area r n.there (any r (area_in k c words r (shaped n.there.0 r n.there.1) item in_list))
      where
        passes : (r : Planned) (s : Stood) → IsIn (stood_in r) s → s.thing ≡ AnArea item → list_any (λ x. is_area own area x.thing) (stood_in r) ≡ true
        passes r s at is = any_in (λ x. is_area own area x.thing) (stood_in r) s (ap (is_area own area) is ∙ names_it) at

        any : (r : Planned) → IsIn r.things (AnArea item) ⊎ IsIn r.zeros (AnArea item) → list_any (λ x. is_area own area x.thing) (stood_in r) ≡ true
        any r (inl x) =
            let (s, at, is) = stood_in_place r.origin r.base r.things (AnArea item) x in
            passes r s (in_front (stood r.origin r.base r.things) (stood r.origin (zero_base_of r) r.zeros) s at) is
        any r (inr x) =
            let (s, at, is) = stood_in_place r.origin (zero_base_of r) r.zeros (AnArea item) x in
            passes r s (in_back (stood r.origin r.base r.things) (stood r.origin (zero_base_of r) r.zeros) s at) is

    -- a thing of that name is that area
    pub is_item : (t : Thing) → is_area own area t ≡ true → IsLoaded os t ⊎ IsCleared os t → t ≡ AnArea item
    is_item Header e x = absurd cc
    is_item (AVeneer target b) e x = absurd cc
    is_item (Startup n) e x = absurd cc
    is_item (AnArea j) e x =
        let (object, number) = both_true (j.object == own) (j.area == area) e in
        let by_object : j.object ≡ own = eqb-true j.object own object in
        let by_area : j.area ≡ area = eqb-true j.area area number in
        let name : AreaName = record { object = own; area = area } in
        let named : name_of j ≡ name = cc in
        let is_own : item_at os name ≡ Some j = ap (item_at os) (sym named) ∙ own_by x in
        let it : item_at os name ≡ Some item = rw here (rw there refl) in
        ap AnArea (same j item (sym is_own ∙ it))
      where
        own_by : IsLoaded os (AnArea j) ⊎ IsCleared os (AnArea j) → IsOwn os j
        own_by (inl y) = y.0
        own_by (inr y) = y.0

  -- ---- all of it

  -- in the part that is loaded, or in the zero part
  abbrev pub IsSomewhere : Planned → Stood → Type 0
  IsSomewhere r s = IsWithin (IsLoaded os) r.base (zero_base_of r) s ⊎ IsWithin (IsCleared os) (zero_base_of r) (end_of r) s

  pub somewhere : (n : ℕ) (r : Planned) → slice_get rs n ≡ Some r → AllByRecursion (IsSomewhere r) (stood_in r)
  somewhere n r at =
      all_append (IsSomewhere r) (stood r.origin r.base r.things) (stood r.origin (zero_base_of r) r.zeros)
      (all_weaker (IsWithin (IsLoaded os) r.base (zero_base_of r)) (IsSomewhere r) (λ s x. inl x) (stood r.origin r.base r.things) (loaded n r at))
      (all_weaker (IsWithin (IsCleared os) (zero_base_of r) (end_of r)) (IsSomewhere r) (λ s x. inr x) (stood r.origin (zero_base_of r) r.zeros) (cleared n r at))

  pub thing_of : (r : Planned) (s : Stood) → IsSomewhere r s → IsLoaded os s.thing ⊎ IsCleared os s.thing
  thing_of r s (inl x) = inl x.holds
  thing_of r s (inr x) = inr x.holds

  ends_in : (r : Planned) (s : Stood) → IsSomewhere r s → end_of r ≤ 2 ^ 32 → s.address + size_of s.thing ≤ 2 ^ 32
  ends_in r s (inl x) fits = let below = x.below in omega (arith, below, fits)
  ends_in r s (inr x) fits = let below = x.below in omega (arith, below, fits)

  ends_at : (own : ℕ) (o : Named Object) → slice_get os own ≡ Some o → (area : ℕ) (a : Area) → slice_get o.value.areas area ≡ Some a → (f : IsFound p own area)
      → f.spot.address + a.size ≤ 2 ^ 32
  ends_at own o here area a there f =
      let (x, named) = found_all (IsSomewhere f.owner) (λ s. is_area own area s.thing) (stood_in f.owner) f.spot (somewhere f.place f.owner f.at) f.there in
      let is : f.spot.thing ≡ AnArea (item_of own o.«module» area a) = is_item own o here area a there f.spot.thing named (thing_of f.owner f.spot x) in
      let size : size_of f.spot.thing ≡ a.size = ap size_of is in
      let ends = ends_in f.owner f.spot x (room f.place f.owner f.at) in
      omega (arith, size, ends)

  full_at : (own area : ℕ) (a : Area) (f : IsFound p own area) → f.spot.address + a.size ≤ 2 ^ 32 → 0 < a.size → bases_of p own area ≡ f.spot.address
  full_at own area a f ends some = f.base ∙ reduced_small (boot_address p) f.spot.address (omega (arith, ends, some))

  low_at : (own area : ℕ) (a : Area) (f : IsFound p own area) → f.spot.address + a.size ≤ 2 ^ 32 → bases_of p own area + a.size ≤ 2 ^ 32
  low_at own area a f ends =
      let base = f.base in
      let low = reduced_le (boot_address p) f.spot.address in
      omega (arith, base, low, ends)

  -- an area that isn't empty stands below the end of memory
  pub full_base : (own : ℕ) (o : Named Object) (here : slice_get os own ≡ Some o) (area : ℕ) (a : Area) (there : slice_get o.value.areas area ≡ Some a) → 0 < a.size
      → bases_of p own area ≡ (found own o here area a there).spot.address
  full_base own o here area a there some = full_at own area a (found own o here area a there) (ends_at own o here area a there (found own o here area a there)) some

  area_ends : (own : ℕ) (o : Named Object) → slice_get os own ≡ Some o → (area : ℕ) (a : Area) → slice_get o.value.areas area ≡ Some a → bases_of p own area + a.size ≤ 2 ^ 32
  area_ends own o here area a there = low_at own area a (found own o here area a there) (ends_at own o here area a there (found own o here area a there))

  area_aligned : (own : ℕ) (o : Named Object) → slice_get os own ≡ Some o → (area : ℕ) (a : Area) → slice_get o.value.areas area ≡ Some a → bases_of p own area % 4 ≡ 0
  area_aligned own o here area a there =
      let f = found own o here area a there in
      ap (λ (x : ℕ). x % 4) f.base
      ∙ reduced_aligned (boot_address p) f.spot.address (found_all (λ s. s.address % 4 ≡ 0) (λ s. is_area own area s.thing) (stood_in f.owner) f.spot (aligned f.place f.owner f.at) f.there).0

pub objects_are_placed : ObjectsArePlaced
objects_are_placed k ram l regions veneers numbers h own o here = record {
  aligned = area_aligned k ram l regions veneers h own o here;
  ends = area_ends k ram l regions veneers h own o here;
  symbols = λ n y there. is_meant own (boot_address (link_plan k l regions veneers)) (bases_of (link_plan k l regions veneers)) y _
      (λ e. ap (reduced_meant (boot_address (link_plan k l regions veneers))) (defined_here l numbers (bases_of (link_plan k l regions veneers)) own n o y here there e));
  homes = λ n. homes_reduced (objects_in l.objects) (bases_of (link_plan k l regions veneers)) (boot_address (link_plan k l regions veneers)) (meaning_at (link_of l) numbers own n);
  addresses = λ area. refl;
}
