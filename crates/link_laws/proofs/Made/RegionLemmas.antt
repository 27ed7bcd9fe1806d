-- The one region in which an area of a link stands.
use Rattle.std.proofs.Common.{◌≡◌, inl, inr, ℕ, zero, suc, ◌+◌, Bool, true, false, not, List, [], length, refl, sym, ap, subst, ◌∙◌, arith, Option, Some}
use Rattle.std.specs.Prelude.{slice_get, unwrap_or}
use Rattle.std.specs.List.{filter_map, AllByRecursion}
use Rattle.std.specs.Option.{option_map}
use Rattle.std.proofs.lemmas.Option.{slice_get-map}
use Rattle.base_lemmas.proofs.BaseLemmas.{all_append, all_weaker, same}
use Rattle.sdt_word.specs.declared.ranges.Range32.{Range32}
use Rattle.aof_object.specs.declared.records.Area.{Area}
use Rattle.aof_object.specs.declared.records.Object.{Object}
use Rattle.place_model.specs.declared.scatter.Kind.{Kind}
use Rattle.place_model.specs.Assignment.{described_regions, Offer, offers_of, best, found, areas_of, lists_from}
use Rattle.place_model.specs.Items.{Item, is_zero_initialised}
use Rattle.place_model.specs.Plans.{Contents, areas_in, Planned, zero_base_of, Plan, regions_of, table_words, stood_in, is_area}
use Rattle.place_model.specs.Things.{Thing, AnArea, stood}
use Rattle.place_model.proofs.ListLemmas.{all_at, all_indexed, all_of_get}
use Rattle.link_model.specs.declared.placing.AreaName.{AreaName}
use Rattle.link_model.specs.declared.placing.Veneer.{Veneer}
use Rattle.link_model.specs.declared.selection.Linked.{Linked}
use Rattle.link_model.specs.declared.selection.Named.{Named}
use Rattle.link_model.specs.Veneers.{IsIn}
use Rattle.link_items.specs.LinkedItems.{item_of, items_in, item_at, contents_of}
use Rattle.link_laws.specs.Placing.{link_plan, IsPlacedLink}
use Rattle.link_laws.proofs.ListLemmas.{found_all, in_filter_map}
use Rattle.link_laws.proofs.ItemLemmas.{IsOwn, items_own}
use Rattle.link_laws.proofs.RegionLemmas.{things_all, header_all, startup_all, zeros_all}
use Rattle.link_laws.proofs.Made.AssignedLemmas.{region_of, all_taken}
use Rattle.link_laws.proofs.Made.VeneerLemmas.{all_stood}
use Rattle.link_laws.proofs.PlacedLemmas.{shaped, found as found_area, is_item}

-- ---- which region takes an item

abbrev pub taken_by : Kind → Item → Option ℕ
taken_by k i = region_of (found (best (offers_of k) i))

all_listed : (offers : List Offer) (items : List Item) (k n j m : ℕ) → m ≡ k + j
    → AllByRecursion (λ i. region_of (found (best offers i)) ≡ Some m) (unwrap_or (slice_get (lists_from offers items k n) j) [])
all_listed offers items k zero j m e = tt
all_listed offers items k (suc n) zero m e =
    let own : k ≡ m = omega (arith, e) in
    subst (λ (q : ℕ). AllByRecursion (λ i. region_of (found (best offers i)) ≡ Some q) (areas_of offers items k)) own
    (all_weaker (λ i. Unit {0} × (region_of (found (best offers i)) ≡ Some k)) (λ i. region_of (found (best offers i)) ≡ Some k) (λ i h. h.1) (areas_of offers items k)
    (all_taken (λ i. Unit {0}) offers k items (all_indexed (λ i. Unit {0}) items (λ n i at. tt))))
all_listed offers items k (suc n) (suc j) m e = all_listed offers items (suc k) n j m (omega (arith, e))

-- ---- of a link that is placed

module _ (k : Kind) (ram : Option (List Range32)) (l : Linked) (regions : List (List AreaName)) (veneers : List Veneer) (h : IsPlacedLink k ram l regions veneers) where
  abbrev c : Contents
  c = contents_of l.objects regions veneers

  abbrev p : Plan
  p = link_plan k l regions veneers

  -- what is in a region's list has that region
  pub listed_there : (n : ℕ) → AllByRecursion (λ i. taken_by k i ≡ Some n) (areas_in c n)
  listed_there n =
      let offers : List Offer = offers_of k in
      subst (λ (lists : List (List Item)). AllByRecursion (λ i. taken_by k i ≡ Some n) (unwrap_or (slice_get lists n) [])) (sym h.assigned.each)
      (all_listed offers (items_in l.objects) 0 (length (described_regions k)) n n (omega arith))

  module _ (own : ℕ) (o : Named Object) (here : slice_get l.objects own ≡ Some o) (area : ℕ) (a : Area) (there : slice_get o.value.areas area ≡ Some a) where
    abbrev pub item : Item
    item = item_of own o.«module» area a

    named_item : (i : Item) → IsOwn l.objects i → is_area own area (AnArea i) ≡ true → i ≡ item
    named_item i is named = go (is_zero_initialised i) refl
      where
        go : (b : Bool) → is_zero_initialised i ≡ b → i ≡ item
        go true e = let it = is_item k ram l regions veneers h own o here area a there (AnArea i) named (inr (is, e)) in cc
        go false e = let it = is_item k ram l regions veneers h own o here area a there (AnArea i) named (inl (is, e)) in cc

    abbrev IsTakenBy : ℕ → Thing → Type 0
    IsTakenBy n t = is_area own area t ≡ true → taken_by k item ≡ Some n

    items_taken : (n : ℕ) → AllByRecursion (λ i. IsTakenBy n (AnArea i)) (areas_in c n)
    items_taken n =
        all_indexed (λ i. IsTakenBy n (AnArea i)) (areas_in c n)
        (λ m i at named.
        let is : IsOwn l.objects i = all_at (IsOwn l.objects) (areas_in c n) m i (all_of_get (λ areas. AllByRecursion (IsOwn l.objects) areas) c.areas n [] tt (items_own l.objects regions veneers)) at in
        ap (taken_by k) (sym (named_item i is named)) ∙ all_at (λ j. taken_by k j ≡ Some n) (areas_in c n) m i (listed_there n) at)

    -- in whose region it stands
    pub stands_taken : (n : ℕ) (r : Planned) → slice_get (regions_of p) n ≡ Some r → AllByRecursion (λ s. IsTakenBy r.number s.thing) (stood_in r)
    stands_taken n r at =
        let shape = shaped k ram l regions veneers h n r at in
        let items = items_taken r.number in
        let things : AllByRecursion (IsTakenBy r.number) r.things =
        things_all (IsTakenBy r.number) k c (table_words k c) r shape (header_all (IsTakenBy r.number) k r.number (λ e. absurd cc)) (startup_all (IsTakenBy r.number) k r.number (table_words k c) (λ e. absurd cc)) (λ t b e. absurd cc)
        (all_indexed (λ i. not (is_zero_initialised i) ≡ true → IsTakenBy r.number (AnArea i)) (areas_in c r.number) (λ m i there e. all_at (λ i. IsTakenBy r.number (AnArea i)) (areas_in c r.number) m i items there)) in
        let zeros : AllByRecursion (IsTakenBy r.number) r.zeros =
        zeros_all (IsTakenBy r.number) k c (table_words k c) r shape
        (all_indexed (λ i. is_zero_initialised i ≡ true → IsTakenBy r.number (AnArea i)) (areas_in c r.number) (λ m i there e. all_at (λ i. IsTakenBy r.number (AnArea i)) (areas_in c r.number) m i items there)) in
        all_append (λ s. IsTakenBy r.number s.thing) (stood r.origin r.base r.things) (stood r.origin (zero_base_of r) r.zeros)
        (all_stood (IsTakenBy r.number) r.origin r.base r.things things)
        (all_stood (IsTakenBy r.number) r.origin (zero_base_of r) r.zeros zeros)

    -- so a region in whose list it is has the number of the one where it is found
    pub found_there : (n : ℕ) (names : List AreaName) → slice_get regions n ≡ Some names → IsIn names (record { object = own; area = area })
        → (found_area k ram l regions veneers h own o here area a there).owner.number ≡ n
    found_there n names at in_names =
        let f = found_area k ram l regions veneers h own o here area a there in
        let (by, named) = found_all (λ s. IsTakenBy f.owner.number s.thing) (λ s. is_area own area s.thing) (stood_in f.owner) f.spot (stands_taken f.place f.owner f.at) f.there in
        let one : taken_by k item ≡ Some f.owner.number = by named in
        let is : item_at l.objects (record { object = own; area = area }) ≡ Some item = rw here (rw there refl) in
        let list : slice_get c.areas n ≡ Some (filter_map (item_at l.objects) names) = slice_get-map (filter_map (item_at l.objects)) regions n ∙ ap (option_map (filter_map (item_at l.objects))) at in
        let whole : areas_in c n ≡ filter_map (item_at l.objects) names = ap (λ (z : Option (List Item)). unwrap_or z []) list in
        let (i, there_in) = in_filter_map (item_at l.objects) names (record { object = own; area = area }) item is in_names in
        let two : taken_by k item ≡ Some n = all_at (λ j. taken_by k j ≡ Some n) (areas_in c n) i item (listed_there n) (ap (λ (xs : List Item). slice_get xs i) whole ∙ there_in) in
        same f.owner.number n (sym one ∙ two)
