-- Each area of a linked object stands once in a placement.
use Rattle.std.proofs.Common.{◌≡◌, ℕ, zero, suc, ◌+◌, ◌<◌, ◌≤◌, Bool, true, false, not, cond, ◌&&◌, ◌==◌, if◌then◌else◌, List, [], ◌∷◌, ◌++◌, length, map, refl, ap, subst, ◌∙◌, arith, eqb-true, Some, None}
use Rattle.std.specs.Prelude.{nat_le, slice_get, unwrap_or}
use Rattle.std.specs.List.{cons_option, filter, filter_map, flat_map, find, AllByRecursion}
use Rattle.std.proofs.lemmas.Grind.{flat_map-append}
use Rattle.aof_object.specs.declared.records.Area.{Area}
use Rattle.aof_object.specs.declared.records.Object.{Object}
use Rattle.link_items.specs.LinkedItems.{items_of, items_from, items_in}
use Rattle.link_model.specs.declared.placing.PlacedArea.{PlacedArea}
use Rattle.link_model.specs.declared.selection.Named.{Named}
use Rattle.link_model.specs.Veneers.{IsIn}
use Rattle.link_place.specs.Placed.{area_of, areas_of}
use Rattle.link_values.specs.Placed as values
use Rattle.place_model.specs.declared.scatter.Kind.{Kind}
use Rattle.place_model.specs.declared.scatter.Kind.TheVariants as kind
use Rattle.place_model.specs.declared.scatter.ScatterLoad.{ScatterLoad}
use Rattle.place_model.specs.declared.scatter.ScatterRegion.{ScatterRegion}
use Rattle.place_model.specs.Assignment.{description, described_regions, Offer, best, Found, Nowhere, Within, Unclear, found, Kept, may_precede, put_in, in_order, kept_by, areas_of as kept_areas, lists_from, offers_of, AreAssigned}
use Rattle.place_model.specs.Items.{Item, is_zero_initialised}
use Rattle.place_model.specs.Things.{Thing, Header, AnArea, AVeneer, Startup, size_of, start_of, Stood, stood}
use Rattle.place_model.specs.Plans.{Contents, RegionVeneer, areas_in, veneers_in, header_in, startup_in, Planned, zero_base_of, length_of, end_of, planned, planned_from, loads_from, regions_of, plan_for, is_area}
use Rattle.link_laws.proofs.Made.AddressLemmas.{AreCounted}
use Rattle.link_laws.proofs.RegionLemmas.{IsShaped, all_shaped}

-- ---- how many pass a test

abbrev pub passing : {X : Type 0} → (X → Bool) → List X → ℕ
passing test [] = 0
passing test (x ∷ xs) = cond (test x) 1 0 + passing test xs

pub passing_append : {X : Type 0} (test : X → Bool) (xs ys : List X) → passing test (xs ++ ys) ≡ passing test xs + passing test ys
passing_append test [] ys = omega arith
passing_append test (x ∷ xs) ys = let rest = passing_append test xs ys in omega (arith, rest)

pub passing_map : {X Y : Type 0} (test : Y → Bool) (f : X → Y) (xs : List X) → passing test (map f xs) ≡ passing (λ x. test (f x)) xs
passing_map test f [] = refl
passing_map test f (x ∷ xs) = let rest = passing_map test f xs in omega (arith, rest)

pub in_passes : {X : Type 0} (test : X → Bool) (xs : List X) (x : X) → test x ≡ true → IsIn xs x → 1 ≤ passing test xs
in_passes test [] x passes h = absurd cc
in_passes test (y ∷ ys) x passes (zero, e) =
    let same : y ≡ x = cc in
    let one : ◌≡◌ {A = ℕ} (cond (test y) 1 0) 1 = ap {B = ℕ} (λ b. cond b 1 0) (ap test same ∙ passes) in
    omega (arith, one)
in_passes test (y ∷ ys) x passes (suc i, e) = let rest = in_passes test ys x passes (i, e) in omega (arith, rest)

-- the only one that passes is found
pub found_only : {X : Type 0} (test : X → Bool) (xs : List X) (x : X) → passing test xs ≤ 1 → test x ≡ true → IsIn xs x → find test xs ≡ Some x
found_only test [] x once passes h = absurd cc
found_only test (y ∷ ys) x once passes (zero, e) =
    let same : y ≡ x = cc in
    let t : test y ≡ true = ap test same ∙ passes in
    rw t (ap Some same)
found_only {X} test (y ∷ ys) x once passes (suc i, e) = go (test y) once (in_passes test ys x passes (i, e)) (λ less. found_only test ys x less passes (i, e))
  where
    go : (b : Bool) → cond b 1 0 + passing test ys ≤ 1 → 1 ≤ passing test ys → (passing test ys ≤ 1 → find test ys ≡ Some x) → cond b (Some y) (find test ys) ≡ Some x
    go true most least rest = absurd (omega (arith, most, least))
    go false most least rest = rest (omega (arith, most))

-- what passes one test or its opposite
pub passing_split : {X : Type 0} (test kept : X → Bool) (xs : List X) → passing test (filter (λ x. not (kept x)) xs) + passing test (filter kept xs) ≡ passing test xs
passing_split test kept [] = refl
passing_split {X} test kept (x ∷ xs) = go (kept x) (passing_split test kept xs)
  where
    go : (b : Bool) → passing test (filter (λ y. not (kept y)) xs) + passing test (filter kept xs) ≡ passing test xs
        → passing test (cond (not b) (x ∷ filter (λ y. not (kept y)) xs) (filter (λ y. not (kept y)) xs)) + passing test (cond b (x ∷ filter kept xs) (filter kept xs)) ≡ cond (test x) 1 0 + passing test xs
    go true rest = omega (arith, rest)
    go false rest = omega (arith, rest)

-- ---- items of objects have numbers of their own

abbrev pub named : ℕ → ℕ → Item → Bool
named object area i = is_area object area (AnArea i)

module _ (object area : ℕ) where
  other_object : (own : ℕ) (home : List ℕ) (k : ℕ) (areas : List Area) → (own == object) ≡ false → passing (named object area) (items_of own home k areas) ≡ 0
  other_object own home k [] e = refl
  other_object own home k (a ∷ areas) e = let rest = other_object own home (suc k) areas e in rw e (omega (arith, rest))

  later_areas : (own : ℕ) (home : List ℕ) (k : ℕ) (areas : List Area) → area < k → passing (named object area) (items_of own home k areas) ≡ 0
  later_areas own home k [] lt = refl
  later_areas own home k (a ∷ areas) lt = go (own == object) (k == area) refl (later_areas own home (suc k) areas (omega (arith, lt)))
    where
      go : (b c : Bool) → (k == area) ≡ c → passing (named object area) (items_of own home (suc k) areas) ≡ 0 → cond (b && c) 1 0 + passing (named object area) (items_of own home (suc k) areas) ≡ 0
      go b true e rest = absurd (omega (arith, lt, eqb-true k area e))
      go true false e rest = omega (arith, rest)
      go false false e rest = omega (arith, rest)

  once_in_object : (own : ℕ) (home : List ℕ) (k : ℕ) (areas : List Area) → passing (named object area) (items_of own home k areas) ≤ 1
  once_in_object own home k [] = omega arith
  once_in_object own home k (a ∷ areas) = go (own == object) (k == area) refl (once_in_object own home (suc k) areas)
    where
      go : (b c : Bool) → (k == area) ≡ c → passing (named object area) (items_of own home (suc k) areas) ≤ 1 → cond (b && c) 1 0 + passing (named object area) (items_of own home (suc k) areas) ≤ 1
      go true true e rest = let none = later_areas own home (suc k) areas (omega (arith, eqb-true k area e)) in omega (arith, none)
      go true false e rest = omega (arith, rest)
      go false c e rest = omega (arith, rest)

  later_objects : (i : ℕ) (os : List (Named Object)) → object < i → passing (named object area) (items_from i os) ≡ 0
  later_objects i [] lt = refl
  later_objects i (o ∷ os) lt =
      let rest = later_objects (suc i) os (omega (arith, lt)) in
      let own = other_object i o.«module» 0 o.value.areas (not_equal (i == object) refl) in
      omega (arith, passing_append (named object area) (items_of i o.«module» 0 o.value.areas) (items_from (suc i) os), own, rest)
    where
      not_equal : (b : Bool) → (i == object) ≡ b → b ≡ false
      not_equal true e = absurd (omega (arith, lt, eqb-true i object e))
      not_equal false e = refl

  once_in_objects : (i : ℕ) (os : List (Named Object)) → passing (named object area) (items_from i os) ≤ 1
  once_in_objects i [] = omega arith
  once_in_objects i (o ∷ os) =
      let whole = passing_append (named object area) (items_of i o.«module» 0 o.value.areas) (items_from (suc i) os) in
      go (i == object) refl whole (once_in_objects (suc i) os)
    where
      go : (b : Bool) → (i == object) ≡ b
          → passing (named object area) (items_from i (o ∷ os)) ≡ passing (named object area) (items_of i o.«module» 0 o.value.areas) + passing (named object area) (items_from (suc i) os)
          → passing (named object area) (items_from (suc i) os) ≤ 1 → passing (named object area) (items_from i (o ∷ os)) ≤ 1
      go true e whole rest =
          let none = later_objects (suc i) os (omega (arith, eqb-true i object e)) in
          omega (arith, whole, none, once_in_object i o.«module» 0 o.value.areas)
      go false e whole rest = omega (arith, whole, rest, other_object i o.«module» 0 o.value.areas e)

-- ---- each is in the list of one region

abbrev at_least : ℕ → Found → Bool
at_least n (Within o) = nat_le n o.region
at_least n _ = false

module _ (test : Item → Bool) (offers : List Offer) where
  abbrev from : ℕ → Item → Bool
  from n i = test i && at_least n (found (best offers i))

  put_passes : (k : Kept) (ks : List Kept) → passing (λ q. test q.item) (put_in k ks) ≡ cond (test k.item) 1 0 + passing (λ q. test q.item) ks
  put_passes k [] = refl
  put_passes k (l ∷ ls) = go (may_precede k l) (put_passes k ls)
    where
      go : (b : Bool) → passing (λ q. test q.item) (put_in k ls) ≡ cond (test k.item) 1 0 + passing (λ q. test q.item) ls
          → passing (λ q. test q.item) (if b then k ∷ l ∷ ls else l ∷ put_in k ls) ≡ cond (test k.item) 1 0 + (cond (test l.item) 1 0 + passing (λ q. test q.item) ls)
      go true rest = refl
      go false rest = omega (arith, rest)

  order_passes : (ks : List Kept) → passing (λ q. test q.item) (in_order ks) ≡ passing (λ q. test q.item) ks
  order_passes [] = refl
  order_passes (k ∷ ks) = let rest = order_passes ks in omega (arith, put_passes k (in_order ks), rest)

  -- an item that the region of a number keeps is in no later one
  one_step : (n : ℕ) (i : Item) (f : Found) (rest : List Kept) (m l : ℕ) → passing (λ q. test q.item) rest + m ≤ l
      → passing (λ q. test q.item) (cons_option (kept_by n i f) rest) + (cond (test i && at_least (suc n) f) 1 0 + m) ≤ cond (test i && at_least n f) 1 0 + l
  one_step n i Nowhere rest m l h = go (test i)
    where
      go : (b : Bool) → passing (λ q. test q.item) rest + (cond (b && false) 1 0 + m) ≤ cond (b && false) 1 0 + l
      go true = omega (arith, h)
      go false = omega (arith, h)
  one_step n i (Unclear o p) rest m l h = go (test i)
    where
      go : (b : Bool) → passing (λ q. test q.item) rest + (cond (b && false) 1 0 + m) ≤ cond (b && false) 1 0 + l
      go true = omega (arith, h)
      go false = omega (arith, h)
  one_step n i (Within o) rest m l h = go (test i) (o.region == n) (nat_le (suc n) o.region) (nat_le n o.region) refl refl refl refl
    where
      go : (b here later from_here : Bool) → test i ≡ b → (o.region == n) ≡ here → nat_le (suc n) o.region ≡ later → nat_le n o.region ≡ from_here
          → passing (λ q. test q.item) (cons_option (if here then Some (record { item = i; edge = o.selection.edge }) else None) rest) + (cond (b && later) 1 0 + m) ≤ cond (b && from_here) 1 0 + l
      go b true true c e f g k = absurd (grind (arith, f, g))
      go b true false false e f g k = absurd (grind (arith, f, k))
      go true true false true e f g k = let one : ◌≡◌ {A = ℕ} (cond (test i) 1 0) 1 = ap {B = ℕ} (λ x. cond x 1 0) e in omega (arith, one, h)
      go false true false true e f g k = let none : ◌≡◌ {A = ℕ} (cond (test i) 1 0) 0 = ap {B = ℕ} (λ x. cond x 1 0) e in omega (arith, none, h)
      go b false true false e f g k = absurd (grind (arith, g, k))
      go true false true true e f g k = omega (arith, h)
      go false false true true e f g k = omega (arith, h)
      go true false false true e f g k = omega (arith, h)
      go true false false false e f g k = omega (arith, h)
      go false false false c e f g k = omega (arith, h)

  kept_once : (n : ℕ) (items : List Item) → passing (λ q. test q.item) (filter_map (λ i. kept_by n i (found (best offers i))) items) + passing (from (suc n)) items ≤ passing (from n) items
  kept_once n [] = omega arith
  kept_once n (i ∷ items) =
      one_step n i (found (best offers i)) (filter_map (λ j. kept_by n j (found (best offers j))) items) (passing (from (suc n)) items) (passing (from n) items) (kept_once n items)

  area_once : (n : ℕ) (items : List Item) → passing test (kept_areas offers items n) + passing (from (suc n)) items ≤ passing (from n) items
  area_once n items =
      let taken : List Kept = filter_map (λ i. kept_by n i (found (best offers i))) items in
      let own = kept_once n items in
      omega (arith, own, passing_map test (λ k. k.item) (in_order taken), order_passes taken)

  from_fewer : (n : ℕ) (items : List Item) → passing (from n) items ≤ passing test items
  from_fewer n [] = omega arith
  from_fewer n (i ∷ items) = go (test i) (at_least n (found (best offers i))) (from_fewer n items)
    where
      go : (b c : Bool) → passing (from n) items ≤ passing test items → cond (b && c) 1 0 + passing (from n) items ≤ cond b 1 0 + passing test items
      go true true rest = omega (arith, rest)
      go true false rest = omega (arith, rest)
      go false c rest = omega (arith, rest)

  -- where the list of each region has at most what the region keeps, all lists together have no more than there is
  listed : (items : List Item) (n k j : ℕ) → passing test (unwrap_or (slice_get (lists_from offers items k n) j) []) ≤ passing test (kept_areas offers items (k + j))
  listed items zero k j = omega arith
  listed items (suc n) k zero = let e : k + 0 ≡ k = omega arith in ap_le (ap (λ (m : ℕ). passing test (kept_areas offers items m)) e)
    where
      ap_le : passing test (kept_areas offers items (k + 0)) ≡ passing test (kept_areas offers items k) → passing test (kept_areas offers items k) ≤ passing test (kept_areas offers items (k + 0))
      ap_le e = omega (arith, e)
  listed items (suc n) k (suc j) =
      let rest = listed items n (suc k) j in
      let e : suc k + j ≡ k + suc j = omega arith in
      let own = ap (λ (m : ℕ). passing test (kept_areas offers items m)) e in
      omega (arith, rest, own)

-- ---- regions are counted

from_counted : (k : Kind) (c : Contents) (words n m : ℕ) (rs : List ScatterRegion) (before load : ℕ) (rest : List Planned) → n + length rs ≡ m → AreCounted m rest
    → AreCounted n (planned_from k c words n rs before load ++ rest)
from_counted k c words n m [] before load rest e all = subst (λ (x : ℕ). AreCounted x rest) (omega (arith, e)) all
from_counted k c words n m (r ∷ rs) before load rest e all =
    let p : Planned = planned k c words n r before load in
    (refl, from_counted k c words (suc n) m rs (end_of p) (load + length_of p) rest (omega (arith, e)) all)

loads_counted : (k : Kind) (c : Contents) (words n : ℕ) (ls : List ScatterLoad) → AreCounted n (regions_of (loads_from k c words n ls))
loads_counted k c words n [] = tt
loads_counted k c words n (l ∷ ls) =
    from_counted k c words n (n + length l.regions) l.regions l.base l.base (regions_of (loads_from k c words (n + length l.regions) ls)) refl (loads_counted k c words (n + length l.regions) ls)

pub all_counted : (k : Kind) (c : Contents) (words : ℕ) → AreCounted 0 (regions_of (plan_for k c words))
all_counted k c words = loads_counted k c words 0 (description k)

-- ---- each area is placed once

module _ (object area : ℕ) where
  abbrev test : Thing → Bool
  test = is_area object area

  placed_as_stood : (n origin at : ℕ) (ts : List Thing) → passing (values.is_area object area) (flat_map (λ s. area_of n s.thing s.address) (stood origin at ts)) ≡ passing test ts
  placed_as_stood n origin at [] = refl
  placed_as_stood n origin at (t ∷ ts) = go t (flat_map (λ s. area_of n s.thing s.address) (stood origin (start_of origin at t + size_of t) ts)) (placed_as_stood n origin (start_of origin at t + size_of t) ts)
    where
      go : (x : Thing) (more : List PlacedArea) → passing (values.is_area object area) more ≡ passing test ts
          → passing (values.is_area object area) (area_of n x (start_of origin at t) ++ more) ≡ cond (test x) 1 0 + passing test ts
      go Header more rest = omega (arith, rest)
      go (AnArea i) more rest = omega (arith, rest)
      go (AVeneer target thumb) more rest = omega (arith, rest)
      go (Startup words) more rest = omega (arith, rest)

  no_header : (k : Kind) (n : ℕ) → passing test (header_in k n) ≡ 0
  no_header (kind.Scatter s) n = refl
  no_header (kind.Plain base) n = refl
  no_header (kind.Aif base relocatable) zero = refl
  no_header (kind.Aif base relocatable) (suc n) = refl

  no_startup : (k : Kind) (n words : ℕ) → passing test (startup_in k n words) ≡ 0
  no_startup (kind.Scatter s) zero words = refl
  no_startup (kind.Scatter s) (suc n) words = refl
  no_startup (kind.Plain base) n words = refl
  no_startup (kind.Aif base relocatable) n words = refl

  no_veneers : (vs : List RegionVeneer) → passing test (map (λ v. AVeneer v.target v.thumb) vs) ≡ 0
  no_veneers [] = refl
  no_veneers (v ∷ vs) = let rest = no_veneers vs in omega (arith, rest)

  as_listed : (k : Kind) (c : Contents) (words : ℕ) (r : Planned) → IsShaped k c words r → passing test r.things + passing test r.zeros ≡ passing (named object area) (areas_in c r.number)
  as_listed k c words r shape =
      let items : List Item = areas_in c r.number in
      let loaded : List Item = filter (λ i. not (is_zero_initialised i)) items in
      let veneers : List Thing = veneers_in c r.number in
      let startup : List Thing = startup_in k r.number words in
      let things = ap (passing test) shape.things in
      let zeros = ap (passing test) shape.zeros in
      omega (
        arith,
        things,
        zeros,
        passing_append test (header_in k r.number) (map AnArea loaded ++ (veneers ++ startup)),
        passing_append test (map AnArea loaded) (veneers ++ startup),
        passing_append test veneers startup,
        no_header k r.number,
        no_startup k r.number words,
        no_veneers (filter (λ v. v.region == r.number) c.veneers),
        passing_map test AnArea loaded,
        passing_map test AnArea (filter is_zero_initialised items),
        passing_split (named object area) is_zero_initialised items,
      )

  region_passes : (k : Kind) (c : Contents) (words : ℕ) (r : Planned) → IsShaped k c words r → passing (values.is_area object area) (areas_of r) ≡ passing (named object area) (areas_in c r.number)
  region_passes k c words r shape =
      let f : Stood → List PlacedArea = λ s. area_of r.number s.thing s.address in
      let front : List Stood = stood r.origin r.base r.things in
      let back : List Stood = stood r.origin (zero_base_of r) r.zeros in
      let whole = ap (passing (values.is_area object area)) (flat_map-append f front back) in
      omega (
        arith,
        whole,
        passing_append (values.is_area object area) (flat_map f front) (flat_map f back),
        placed_as_stood r.number r.origin r.base r.things,
        placed_as_stood r.number r.origin (zero_base_of r) r.zeros,
        as_listed k c words r shape,
      )

  regions_pass : (k : Kind) (os : List (Named Object)) (c : Contents) (words : ℕ) → AreAssigned k (items_in os) c.areas → (n : ℕ) (rs : List Planned) → AreCounted n rs → AllByRecursion (IsShaped k c words) rs
      → passing (values.is_area object area) (flat_map areas_of rs) ≤ passing (from (named object area) (offers_of k) n) (items_in os)
  regions_pass k os c words h n [] counted shaped = omega arith
  regions_pass k os c words h n (r ∷ rs) counted shaped =
      let items : List Item = items_in os in
      let rest = regions_pass k os c words h (suc n) rs counted.1 shaped.1 in
      let list : areas_in c r.number ≡ unwrap_or (slice_get (lists_from (offers_of k) items 0 (length (described_regions k))) n) [] = ap (λ (ls : List (List Item)). unwrap_or (slice_get ls r.number) []) h.each ∙ ap (λ (m : ℕ). unwrap_or (slice_get (lists_from (offers_of k) items 0 (length (described_regions k))) m) []) counted.0 in
      let own = ap (passing (named object area)) list in
      let e : 0 + n ≡ n = omega arith in
      let here = ap (λ (m : ℕ). passing (named object area) (kept_areas (offers_of k) items m)) e in
      omega (
        arith,
        rest,
        own,
        here,
        listed (named object area) (offers_of k) items (length (described_regions k)) 0 n,
        area_once (named object area) (offers_of k) n items,
        region_passes k c words r shaped.0,
        passing_append (values.is_area object area) (areas_of r) (flat_map areas_of rs),
      )

  pub placed_once : (k : Kind) (os : List (Named Object)) (c : Contents) (words : ℕ) → AreAssigned k (items_in os) c.areas → passing (values.is_area object area) (flat_map areas_of (regions_of (plan_for k c words))) ≤ 1
  placed_once k os c words h =
      let all = regions_pass k os c words h 0 (regions_of (plan_for k c words)) (all_counted k c words) (all_shaped k c words) in
      omega (arith, all, from_fewer (named object area) (offers_of k) 0 (items_in os), once_in_objects object area 0 os)
