-- Each veneer that stands in a region is one of those that are needed, and the first there of its target and state.
use Rattle.std.proofs.Common.{◌≡◌, ℕ, zero, suc, ◌+◌, Bool, true, false, not, cond, ◌&&◌, ◌==◌, List, [], ◌∷◌, ◌++◌, map, refl, sym, ap, subst, ◌∙◌, arith, eq-eqb, eqb-true, Some}
use Rattle.std.specs.Prelude.{slice_get}
use Rattle.std.specs.List.{filter, find, AllByRecursion}
use Rattle.std.specs.Option.{option_map, option_or}
use Rattle.std.proofs.lemmas.List.Folds.{find-append}
use Rattle.base_lemmas.proofs.BaseLemmas.{all_append, all_weaker, both_true}
use Rattle.patch_model.specs.Fields.{Home}
use Rattle.patch_model.specs.Patched.{other_state}
use Rattle.place_model.specs.declared.scatter.Kind.{Kind}
use Rattle.place_model.specs.Items.{Item, is_zero_initialised}
use Rattle.place_model.specs.Plans.{Contents, areas_in, veneers_in, header_in, startup_in, Planned, zero_base_of, stood_in, address_of}
use Rattle.place_model.specs.Things.{Thing, AnArea, AVeneer, size_of, start_of, Stood, stood}
use Rattle.place_model.proofs.ListLemmas.{all_at, all_indexed, all_map, Pairs, pairs_indexed}
use Rattle.link_model.specs.declared.placing.AreaName.{AreaName}
use Rattle.link_model.specs.declared.placing.Veneer.{Veneer}
use Rattle.link_model.specs.declared.selection.Named.{Named}
use Rattle.link_model.specs.Veneers.{IsIn}
use Rattle.aof_object.specs.declared.records.Object.{Object}
use Rattle.link_items.specs.LinkedItems.{region_veneer, contents_of}
use Rattle.link_laws.specs.Placing.{is_veneer}
use Rattle.link_laws.proofs.RegionLemmas.{IsShaped, all_areas, header_all, startup_all}
use Rattle.link_laws.proofs.ShownLemmas.{same_state}

-- ---- pairs of the items of a list

all_when : {X : Type 0} (P : X → Type 0) (test : X → Bool) (xs : List X) → AllByRecursion (λ x. test x ≡ true → P x) xs → AllByRecursion P (filter test xs)
all_when P test [] h = tt
all_when P test (x ∷ xs) h = go (test x) refl (all_when P test xs h.1)
  where
    go : (b : Bool) → test x ≡ b → AllByRecursion P (filter test xs) → AllByRecursion P (cond b (x ∷ filter test xs) (filter test xs))
    go true e rest = (h.0 e, rest)
    go false e rest = rest

pairs_when : {X : Type 0} (R : X → X → Type 0) (test : X → Bool) (xs : List X) → Pairs (λ x y. test x ≡ true → test y ≡ true → R x y) xs → Pairs R (filter test xs)
pairs_when R test [] h = tt
pairs_when R test (x ∷ xs) h = go (test x) refl (pairs_when R test xs h.1)
  where
    go : (b : Bool) → test x ≡ b → Pairs R (filter test xs) → Pairs R (cond b (x ∷ filter test xs) (filter test xs))
    go true e rest =
        (all_when (R x) test xs (all_weaker (λ y. test x ≡ true → test y ≡ true → R x y) (λ y. test y ≡ true → R x y) (λ y f. f e) xs h.0), rest)
    go false e rest = rest

pairs_to : {X Y : Type 0} (R : Y → Y → Type 0) (f : X → Y) (xs : List X) → Pairs (λ x y. R (f x) (f y)) xs → Pairs R (map f xs)
pairs_to R f [] h = tt
pairs_to R f (x ∷ xs) h = (all_map (R (f x)) f xs h.0, pairs_to R f xs h.1)

-- of which no item of the one list is with one of the other
pairs_joined : {X : Type 0} (R : X → X → Type 0) (xs ys : List X) → Pairs R xs → Pairs R ys → AllByRecursion (λ x. AllByRecursion (R x) ys) xs → Pairs R (xs ++ ys)
pairs_joined R [] ys a b h = b
pairs_joined R (x ∷ xs) ys a b h = (all_append (R x) xs ys a.0 h.0, pairs_joined R xs ys a.1 b h.1)

all_pairs : {X : Type 0} (R S : X → X → Type 0) → ((x y : X) → R x y → S x y) → (xs : List X) → Pairs R xs → Pairs S xs
all_pairs R S f [] h = tt
all_pairs R S f (x ∷ xs) h = (all_weaker (R x) (S x) (f x) xs h.0, all_pairs R S f xs h.1)

-- where at most one passes, the one that does is the first
find_only : {X : Type 0} (test : X → Bool) (xs : List X) (i : ℕ) (x : X) → Pairs (λ y z. test y ≡ true → test z ≡ true → ⊥) xs → slice_get xs i ≡ Some x → test x ≡ true
    → find test xs ≡ Some x
find_only test [] i x h at passes = absurd cc
find_only test (y ∷ ys) zero x h at passes = let same : y ≡ x = cc in let own : test y ≡ true = ap test same ∙ passes in rw own at
find_only test (y ∷ ys) (suc i) x h at passes = go (test y) refl (find_only test ys i x h.1 at passes)
  where
    go : (b : Bool) → test y ≡ b → find test ys ≡ Some x → cond b (Some y) (find test ys) ≡ Some x
    go true e rest = absurd (all_at (λ z. test y ≡ true → test z ≡ true → ⊥) ys i x h.0 at e passes)
    go false e rest = rest

-- ---- things

-- not both are veneers of one target and state
abbrev pub AreApart : Thing → Thing → Type 0
AreApart t u = (target : Home) (thumb : Bool) → is_veneer target thumb t ≡ true → is_veneer target thumb u ≡ true → ⊥

abbrev IsNone : Thing → Type 0
IsNone t = (target : Home) (thumb : Bool) → is_veneer target thumb t ≡ false

pub all_stood : (P : Thing → Type 0) (origin at : ℕ) (ts : List Thing) → AllByRecursion P ts → AllByRecursion (λ s. P s.thing) (stood origin at ts)
all_stood P origin at [] h = tt
all_stood P origin at (t ∷ ts) h = (h.0, all_stood P origin (start_of origin at t + size_of t) ts h.1)

stood_apart : (origin at : ℕ) (ts : List Thing) → Pairs AreApart ts → Pairs (λ s t. AreApart s.thing t.thing) (stood origin at ts)
stood_apart origin at [] h = tt
stood_apart origin at (t ∷ ts) h =
    (all_stood (AreApart t) origin (start_of origin at t + size_of t) ts h.0, stood_apart origin (start_of origin at t + size_of t) ts h.1)

one_none : (t u : Thing) → IsNone t → AreApart t u
one_none t u none target thumb a b = let no = none target thumb in absurd cc

other_none : (t u : Thing) → IsNone u → AreApart t u
other_none t u none target thumb a b = let no = none target thumb in absurd cc

none_apart : (ts : List Thing) → AllByRecursion IsNone ts → Pairs AreApart ts
none_apart [] h = tt
none_apart (t ∷ ts) h = (all_indexed (AreApart t) ts (λ i u at. one_none t u h.0), none_apart ts h.1)

-- none of the one list, beside others
apart_before : (xs ys : List Thing) → AllByRecursion IsNone xs → AllByRecursion (λ x. AllByRecursion (AreApart x) ys) xs
apart_before xs ys h = all_weaker IsNone (λ x. AllByRecursion (AreApart x) ys) (λ x none. all_indexed (AreApart x) ys (λ i y at. one_none x y none)) xs h

apart_behind : (xs ys : List Thing) → AllByRecursion IsNone ys → AllByRecursion (λ x. AllByRecursion (AreApart x) ys) xs
apart_behind xs ys h = all_indexed (λ x. AllByRecursion (AreApart x) ys) xs (λ i x at. all_weaker IsNone (AreApart x) (λ y none. other_none x y none) ys h)

no_areas : (test : Item → Bool) (items : List Item) → AllByRecursion IsNone (map AnArea (filter test items))
no_areas test items = all_areas IsNone test items (all_indexed (λ i. test i ≡ true → IsNone (AnArea i)) items (λ n i at e target thumb. refl))

-- ---- the veneers of a region

abbrev pub veneer_to : ℕ → Home → Bool → Veneer
veneer_to region target thumb = record { region = region; area = record { object = target.object; area = target.area }; offset = target.offset; thumb = thumb }

-- it is told by its region, its target and its state
is_that : (n : ℕ) (target : Home) (thumb : Bool) (v : Veneer) → (v.region == n) ≡ true
    → is_veneer target thumb (AVeneer (region_veneer v).target (region_veneer v).thumb) ≡ true → v ≡ veneer_to n target thumb
is_that n target thumb v e h =
    let (object, one) = both_true (v.area.object == target.object) (v.area.area == target.area && (v.offset == target.offset && not (other_state v.thumb thumb))) h in
    let (area, two) = both_true (v.area.area == target.area) (v.offset == target.offset && not (other_state v.thumb thumb)) one in
    let (offset, state) = both_true (v.offset == target.offset) (not (other_state v.thumb thumb)) two in
    let a : v.region ≡ n = eqb-true v.region n e in
    let b : v.area.object ≡ target.object = eqb-true v.area.object target.object object in
    let c : v.area.area ≡ target.area = eqb-true v.area.area target.area area in
    let d : v.offset ≡ target.offset = eqb-true v.offset target.offset offset in
    let f : v.thumb ≡ thumb = same_state v.thumb thumb state in
    λ i. record { region = a i; area = record { object = b i; area = c i }; offset = d i; thumb = f i }

of_itself : (target : Home) (thumb : Bool) → is_veneer target thumb (AVeneer target thumb) ≡ true
of_itself target thumb =
    let object : (target.object == target.object) ≡ true = eq-eqb target.object target.object refl in
    let area : (target.area == target.area) ≡ true = eq-eqb target.area target.area refl in
    let offset : (target.offset == target.offset) ≡ true = eq-eqb target.offset target.offset refl in
    rw object (rw area (rw offset (by thumb)))
  where
    by : (b : Bool) → not (other_state b b) ≡ true
    by true = refl
    by false = refl

-- no two in the list are the same
abbrev pub AreOnce : List Veneer → Type 0
AreOnce vs = (i j : ℕ) (v : Veneer) → slice_get vs i ≡ Some v → slice_get vs j ≡ Some v → i ≡ j

module _ (os : List (Named Object)) (regions : List (List AreaName)) (vs : List Veneer) (n : ℕ) where
  abbrev c : Contents
  c = contents_of os regions vs

  things_at : (k : Kind) (words : ℕ) (r : Planned) → IsShaped k c words r → r.number ≡ n
      → r.things ≡ header_in k n ++ (map AnArea (filter (λ i. not (is_zero_initialised i)) (areas_in c n)) ++ (veneers_in c n ++ startup_in k n words))
  things_at k words r shape own =
      shape.things
      ∙ ap (λ (m : ℕ). header_in k m ++ (map AnArea (filter (λ i. not (is_zero_initialised i)) (areas_in c m)) ++ (veneers_in c m ++ startup_in k m words))) own

  -- ---- they are of the list

  abbrev pub IsPlanned : Thing → Type 0
  IsPlanned (AVeneer target thumb) = IsIn vs (veneer_to n target thumb)
  IsPlanned _ = Unit {0}

  veneers_planned : AllByRecursion IsPlanned (veneers_in c n)
  veneers_planned =
      all_map IsPlanned (λ v. AVeneer v.target v.thumb) (filter (λ v. v.region == n) c.veneers)
      (all_when (λ v. IsPlanned (AVeneer v.target v.thumb)) (λ v. v.region == n) c.veneers
      (all_map (λ v. (v.region == n) ≡ true → IsPlanned (AVeneer v.target v.thumb)) region_veneer vs
      (all_indexed (λ v. (v.region == n) ≡ true → IsIn vs (veneer_to n (region_veneer v).target v.thumb)) vs
      (λ i v at e. (i, at ∙ ap (λ (r : ℕ). Some (veneer_to r (region_veneer v).target v.thumb)) (eqb-true v.region n e))))))

  pub things_planned : (k : Kind) (words : ℕ) (r : Planned) → IsShaped k c words r → r.number ≡ n → AllByRecursion IsPlanned r.things
  things_planned k words r shape own =
      let loaded : List Thing = map AnArea (filter (λ i. not (is_zero_initialised i)) (areas_in c n)) in
      let all : AllByRecursion IsPlanned (header_in k n ++ (loaded ++ (veneers_in c n ++ startup_in k n words))) =
      all_append IsPlanned (header_in k n) (loaded ++ (veneers_in c n ++ startup_in k n words)) (header_all IsPlanned k n tt)
      (all_append IsPlanned loaded (veneers_in c n ++ startup_in k n words)
      (all_areas IsPlanned (λ i. not (is_zero_initialised i)) (areas_in c n) (all_indexed (λ i. not (is_zero_initialised i) ≡ true → IsPlanned (AnArea i)) (areas_in c n) (λ m i at e. tt)))
      (all_append IsPlanned (veneers_in c n) (startup_in k n words) veneers_planned (startup_all IsPlanned k n words tt))) in
      subst (AllByRecursion IsPlanned) (sym (things_at k words r shape own)) all

  -- ---- and no two are the same

  veneers_apart : AreOnce vs → Pairs AreApart (veneers_in c n)
  veneers_apart once =
      pairs_to AreApart (λ v. AVeneer v.target v.thumb) (filter (λ v. v.region == n) c.veneers)
      (pairs_when (λ v w. AreApart (AVeneer v.target v.thumb) (AVeneer w.target w.thumb)) (λ v. v.region == n) c.veneers
      (pairs_to (λ v w. (v.region == n) ≡ true → (w.region == n) ≡ true → AreApart (AVeneer v.target v.thumb) (AVeneer w.target w.thumb)) region_veneer vs
      (pairs_indexed (λ v w. (v.region == n) ≡ true → (w.region == n) ≡ true → AreApart (AVeneer (region_veneer v).target v.thumb) (AVeneer (region_veneer w).target w.thumb)) vs
      (λ i j v w lt at there e f target thumb a b.
      let one = is_that n target thumb v e a in
      let two = is_that n target thumb w f b in
      let same = once i j (veneer_to n target thumb) (at ∙ ap Some one) (there ∙ ap Some two) in
      absurd (omega (arith, lt, same))))))

  pub things_apart : (k : Kind) (words : ℕ) (r : Planned) → IsShaped k c words r → r.number ≡ n → AreOnce vs → Pairs AreApart r.things
  things_apart k words r shape own once =
      let loaded : List Thing = map AnArea (filter (λ i. not (is_zero_initialised i)) (areas_in c n)) in
      let header : AllByRecursion IsNone (header_in k n) = header_all IsNone k n (λ target thumb. refl) in
      let areas : AllByRecursion IsNone loaded = no_areas (λ i. not (is_zero_initialised i)) (areas_in c n) in
      let startup : AllByRecursion IsNone (startup_in k n words) = startup_all IsNone k n words (λ target thumb. refl) in
      let all : Pairs AreApart (header_in k n ++ (loaded ++ (veneers_in c n ++ startup_in k n words))) =
      pairs_joined AreApart (header_in k n) (loaded ++ (veneers_in c n ++ startup_in k n words)) (none_apart (header_in k n) header)
      (pairs_joined AreApart loaded (veneers_in c n ++ startup_in k n words) (none_apart loaded areas)
      (pairs_joined AreApart (veneers_in c n) (startup_in k n words) (veneers_apart once) (none_apart (startup_in k n words) startup)
      (apart_behind (veneers_in c n) (startup_in k n words) startup))
      (apart_before loaded (veneers_in c n ++ startup_in k n words) areas))
      (apart_before (header_in k n) (loaded ++ (veneers_in c n ++ startup_in k n words)) header) in
      subst (Pairs AreApart) (sym (things_at k words r shape own)) all

-- it is the first of its target and state
pub is_first : (r : Planned) → Pairs AreApart r.things → (i : ℕ) (s : Stood) (target : Home) (thumb : Bool) → slice_get (stood r.origin r.base r.things) i ≡ Some s → s.thing ≡ AVeneer target thumb
    → address_of (is_veneer target thumb) (stood_in r) ≡ Some s.address
is_first r apart i s target thumb at is =
    let things : List Stood = stood r.origin r.base r.things in
    let behind : List Stood = stood r.origin (zero_base_of r) r.zeros in
    let passes : is_veneer target thumb s.thing ≡ true = ap (is_veneer target thumb) is ∙ of_itself target thumb in
    let found : find (λ q. is_veneer target thumb q.thing) things ≡ Some s =
    find_only (λ q. is_veneer target thumb q.thing) things i s
    (all_pairs (λ q u. AreApart q.thing u.thing) (λ q u. is_veneer target thumb q.thing ≡ true → is_veneer target thumb u.thing ≡ true → ⊥) (λ q u h. h target thumb) things (stood_apart r.origin r.base r.things apart))
    at passes in
    ap (option_map (λ q. q.address))
    (find-append (λ q. is_veneer target thumb q.thing) things behind ∙ ap (λ o. option_or o (find (λ q. is_veneer target thumb q.thing) behind)) found)
