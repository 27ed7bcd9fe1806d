-- What a placement's lists have of one region of a plan, the pieces of what stands there, and the startup code's piece.
use Rattle.std.proofs.Common.{◌≡◌, ℕ, zero, suc, ◌+◌, ◌-◌, ◌*◌, ◌<◌, Bool, true, false, not, ◌==◌, List, [], ◌∷◌, ◌++◌, length, length-append, append_assoc, append-nil, map, refl, sym, ap, subst, ◌∙◌, arith, eq-eqb, eqb-true, Option, Some, None}
use Rattle.std.specs.Prelude.{slice_get}
use Rattle.std.specs.List.{filter, flat_map, find, AllByRecursion}
use Rattle.std.specs.Option.{option_map}
use Rattle.std.proofs.lemmas.List.Elements.{filter-append}
use Rattle.base_lemmas.proofs.BaseLemmas.{all_append}
use Rattle.boot_code.specs.Startup.{table_list, zeros}
use Rattle.boot_code.specs.Words.{boot_list}
use Rattle.place_model.specs.declared.scatter.Kind.{Kind}
use Rattle.place_model.specs.declared.scatter.Kind.TheVariants as kind
use Rattle.place_model.specs.Items.{Item, is_zero_initialised}
use Rattle.place_model.specs.Things.{Thing, Header, AnArea, AVeneer, Startup, alignment_of, size_of, gap, start_of, extent, Stood, stood}
use Rattle.place_model.specs.Plans.{Contents, RegionVeneer, areas_in, veneers_in, header_in, startup_in, Planned, zero_base_of, regions_of, plan_for, stood_in, is_startup, boot_address}
use Rattle.place_model.proofs.ListLemmas.{all_at, all_indexed, all_map, all_flat}
use Rattle.image_model.specs.Regions as image
use Rattle.boot_code.proofs.ViewLemmas.{length-zeros}
use Rattle.image_laws.proofs.RegionLemmas.{length-laid, NoStartup, startup_stands}
use Rattle.link_model.specs.declared.placing.PlacedArea.{PlacedArea}
use Rattle.link_model.specs.declared.placing.PlacedVeneer.{PlacedVeneer}
use Rattle.link_model.specs.declared.placing.Placement.{Placement}
use Rattle.link_model.specs.declared.placing.Region.{Region}
use Rattle.link_model.specs.Members.{Link}
use Rattle.link_model.specs.Veneers.{IsIn}
use Rattle.link_place.specs.Placed.{area_of, areas_of, veneer_of, veneers_of}
use Rattle.link_apply.specs.RegionBytes as linked
use Rattle.link_apply.specs.RegionBytes.{filled_up, entry_of, copy_rows, zero_rows, startup_list, startup_piece}
use Rattle.link_laws.specs.Joins.{front_of}
use Rattle.link_laws.proofs.ListLemmas.{in_front, in_back}
use Rattle.link_laws.proofs.RegionLemmas.{IsShaped, all_shaped, header_all}
use Rattle.link_laws.proofs.SizedLemmas.{words_length}
use Rattle.link_laws.proofs.Made.AddressLemmas.{AreCounted}
use Rattle.link_laws.proofs.Made.Once.{all_counted}

-- ---- lists

none_found : {X : Type 0} (test : X → Bool) (xs : List X) → AllByRecursion (λ x. test x ≡ false) xs → find test xs ≡ None
none_found test [] all = refl
none_found test (x ∷ xs) all = rw (all.0) (none_found test xs all.1)

all_pass : {X : Type 0} (test : X → Bool) (xs : List X) → AllByRecursion (λ x. test x ≡ true) xs → filter test xs ≡ xs
all_pass test [] all = refl
all_pass test (x ∷ xs) all = rw (all.0) (ap (λ ys. x ∷ ys) (all_pass test xs all.1))

none_pass : {X : Type 0} (test : X → Bool) (xs : List X) → AllByRecursion (λ x. test x ≡ false) xs → filter test xs ≡ []
none_pass test [] all = refl
none_pass test (x ∷ xs) all = rw (all.0) (none_pass test xs all.1)

pub in_flat : {X Y : Type 0} (f : X → List Y) (xs : List X) (x : X) (y : Y) → IsIn xs x → IsIn (f x) y → IsIn (flat_map f xs) y
in_flat f [] x y h own = absurd cc
in_flat {X} {Y} f (z ∷ zs) x y (zero, e) own = let is : z ≡ x = cc in in_front (f z) (flat_map f zs) y (subst (λ (q : X). IsIn (f q) y) (sym is) own)
in_flat f (z ∷ zs) x y (suc i, e) own = in_back (f z) (flat_map f zs) y (in_flat f zs x y (i, e) own)

-- ---- what belongs to one region

pub equal_not : (m n : ℕ) → n < m → (m == n) ≡ false
equal_not m n lt = go (m == n) refl
  where
    go : (b : Bool) → (m == n) ≡ b → b ≡ false
    go true e = absurd (omega (arith, lt, eqb-true m n e))
    go false e = refl

pub not_equal : (m n : ℕ) → m < n → (m == n) ≡ false
not_equal m n lt = go (m == n) refl
  where
    go : (b : Bool) → (m == n) ≡ b → b ≡ false
    go true e = absurd (omega (arith, lt, eqb-true m n e))
    go false e = refl

module _ {Y : Type 0} (key : Y → ℕ) (f : Planned → List Y) (own : (r : Planned) → AllByRecursion (λ y. key y ≡ r.number) (f r)) where
  keyed : (r : Planned) (n : ℕ) (b : Bool) → (r.number == n) ≡ b → AllByRecursion (λ y. (key y == n) ≡ b) (f r)
  keyed r n b e = all_indexed (λ y. (key y == n) ≡ b) (f r) (λ i y at. ap (λ (m : ℕ). m == n) (all_at (λ z. key z ≡ r.number) (f r) i y (own r) at) ∙ e)

  none_later : (m n : ℕ) (rs : List Planned) → AreCounted m rs → n < m → filter (λ y. key y == n) (flat_map f rs) ≡ []
  none_later m n [] counted lt = refl
  none_later m n (r ∷ rs) counted lt =
      let apart : (r.number == n) ≡ false = ap (λ (x : ℕ). x == n) counted.0 ∙ equal_not m n lt in
      filter-append (λ y. key y == n) (f r) (flat_map f rs)
      ∙ ap (λ ys. ys ++ filter (λ y. key y == n) (flat_map f rs)) (none_pass (λ y. key y == n) (f r) (keyed r n false apart))
      ∙ none_later (suc m) n rs counted.1 (omega (arith, lt))

  pub own_part : (m : ℕ) (rs : List Planned) → AreCounted m rs → (j : ℕ) (r : Planned) → slice_get rs j ≡ Some r → (n : ℕ) → n ≡ m + j → filter (λ y. key y == n) (flat_map f rs) ≡ f r
  own_part m [] counted j r at n e = absurd cc
  own_part m (q ∷ rs) counted zero r at n e =
      let is : q ≡ r = cc in
      let here : (q.number == n) ≡ true = eq-eqb q.number n (counted.0 ∙ omega (arith, e)) in
      filter-append (λ y. key y == n) (f q) (flat_map f rs)
      ∙ ap (λ ys. ys ++ filter (λ y. key y == n) (flat_map f rs)) (all_pass (λ y. key y == n) (f q) (keyed q n true here))
      ∙ ap (λ ys. f q ++ ys) (none_later (suc m) n rs counted.1 (omega (arith, e)))
      ∙ append-nil (f q) ∙ ap f is
  own_part m (q ∷ rs) counted (suc j) r at n e =
      let apart : (q.number == n) ≡ false = ap (λ (x : ℕ). x == n) counted.0 ∙ not_equal m n (omega (arith, e)) in
      filter-append (λ y. key y == n) (f q) (flat_map f rs)
      ∙ ap (λ ys. ys ++ filter (λ y. key y == n) (flat_map f rs)) (none_pass (λ y. key y == n) (f q) (keyed q n false apart))
      ∙ own_part (suc m) rs counted.1 j r at n (omega (arith, e))

pub number_at : (m : ℕ) (rs : List Planned) → AreCounted m rs → (j : ℕ) (r : Planned) → slice_get rs j ≡ Some r → r.number ≡ m + j
number_at m [] counted j r at = absurd cc
number_at m (q ∷ rs) counted zero r at = let is : q ≡ r = cc in ap (λ (x : Planned). x.number) (sym is) ∙ counted.0 ∙ omega arith
number_at m (q ∷ rs) counted (suc j) r at = number_at (suc m) rs counted.1 j r at ∙ omega arith

area_numbers : (n : ℕ) (s : Stood) (t : Thing) → AllByRecursion (λ a. a.region ≡ n) (area_of n t s.address)
area_numbers n s Header = tt
area_numbers n s (AnArea i) = (refl, tt)
area_numbers n s (AVeneer target thumb) = tt
area_numbers n s (Startup words) = tt

veneer_numbers : (n : ℕ) (s : Stood) (t : Thing) → AllByRecursion (λ v. v.veneer.region ≡ n) (veneer_of n t s.address)
veneer_numbers n s Header = tt
veneer_numbers n s (AnArea i) = tt
veneer_numbers n s (AVeneer target thumb) = (refl, tt)
veneer_numbers n s (Startup words) = tt

pub areas_own : (r : Planned) → AllByRecursion (λ a. a.region ≡ r.number) (areas_of r)
areas_own r =
    all_flat (λ a. a.region ≡ r.number) (λ s. area_of r.number s.thing s.address) (stood_in r)
    (all_indexed (λ s. AllByRecursion (λ a. a.region ≡ r.number) (area_of r.number s.thing s.address)) (stood_in r) (λ i s at. area_numbers r.number s s.thing))

pub veneers_own : (r : Planned) → AllByRecursion (λ v. v.veneer.region ≡ r.number) (veneers_of r)
veneers_own r =
    all_flat (λ v. v.veneer.region ≡ r.number) (λ s. veneer_of r.number s.thing s.address) (stood_in r)
    (all_indexed (λ s. AllByRecursion (λ v. v.veneer.region ≡ r.number) (veneer_of r.number s.thing s.address)) (stood_in r) (λ i s at. veneer_numbers r.number s s.thing))

-- ---- pieces and things

pub stood_append : (origin at : ℕ) (xs ys : List Thing) → stood origin at (xs ++ ys) ≡ stood origin at xs ++ stood origin (at + extent origin at xs) ys
stood_append origin at [] ys = let e : at ≡ at + 0 = omega arith in ap (λ (k : ℕ). stood origin k ys) e
stood_append origin at (x ∷ xs) ys =
    let next : ℕ = start_of origin at x + size_of x in
    let e : next + extent origin next xs ≡ at + extent origin at (x ∷ xs) = omega arith in
    ap (λ (ss : List Stood). (record { thing = x; address = start_of origin at x }) ∷ ss)
    (stood_append origin next xs ys ∙ ap (λ (k : ℕ). stood origin next xs ++ stood origin k ys) e)

pub extent_append : (origin at : ℕ) (xs ys : List Thing) → extent origin at (xs ++ ys) ≡ extent origin at xs + extent origin (at + extent origin at xs) ys
extent_append origin at [] ys = let e : at ≡ at + 0 = omega arith in ap (λ (k : ℕ). extent origin k ys) e ∙ omega arith
extent_append origin at (x ∷ xs) ys =
    let next : ℕ = start_of origin at x + size_of x in
    let e : next + extent origin next xs ≡ at + extent origin at (x ∷ xs) = omega arith in
    let rest = extent_append origin next xs ys in
    let last = ap (λ (k : ℕ). extent origin k ys) e in
    omega (arith, rest, last)

-- each thing with its bytes
abbrev pub shown : (Thing → List ℕ) → List Stood → List linked.Piece
shown held ss = map (λ s. (s.address, held s.thing)) ss

pub laid_same : (held : Thing → List ℕ) (origin at : ℕ) (ts : List Thing) → AllByRecursion (λ t. length (held t) ≡ size_of t) ts
    → linked.laid at (shown held (stood origin at ts)) ≡ image.laid held origin at ts
laid_same held origin at [] all = refl
laid_same held origin at (t ∷ ts) all =
    let start : ℕ = start_of origin at t in
    let space : start - at ≡ gap origin (alignment_of t) at = omega arith in
    let size = all.0 in
    let next : start + length (held t) ≡ start + size_of t = omega (arith, size) in
    let rest : linked.laid (start + length (held t)) (shown held (stood origin (start + size_of t) ts)) ≡ image.laid held origin (start + size_of t) ts =
    ap (λ (k : ℕ). linked.laid k (shown held (stood origin (start + size_of t) ts))) next ∙ laid_same held origin (start + size_of t) ts all.1 in
    ap (λ (k : ℕ). zeros k ++ (held t ++ linked.laid (start + length (held t)) (shown held (stood origin (start + size_of t) ts)))) space
    ∙ ap (λ (bytes : List ℕ). zeros (gap origin (alignment_of t) at) ++ (held t ++ bytes)) rest

-- ---- a region's bytes

zeros_join : (n k : ℕ) → zeros (n + k) ≡ zeros n ++ zeros k
zeros_join zero k = let e : 0 + k ≡ k = omega arith in ap zeros e
zeros_join (suc n) k = let e : suc n + k ≡ suc (n + k) = omega arith in ap zeros e ∙ ap (λ (xs : List ℕ). 0 ∷ xs) (zeros_join n k)

filled_whole : (size : ℕ) (bytes : List ℕ) → length bytes ≡ size → filled_up size bytes ≡ bytes
filled_whole size bytes e = let none : size - length bytes ≡ 0 = omega (arith, e) in ap (λ (n : ℕ). bytes ++ zeros n) none ∙ append-nil bytes

filled_equal : (size : ℕ) (bytes other : List ℕ) → bytes ≡ other → length other ≡ size → filled_up size bytes ≡ other
filled_equal size bytes other e f = ap (filled_up size) e ∙ filled_whole size other f

module _ (held : Thing → List ℕ) (origin at : ℕ) where
  -- a gap before the first thing
  behind_gap : (n : ℕ) (ts : List Thing) (size : ℕ) → size ≡ n + extent origin (at + n) ts → AllByRecursion (λ t. length (held t) ≡ size_of t) ts
      → filled_up size (linked.laid at (shown held (stood origin (at + n) ts))) ≡ zeros n ++ image.laid held origin (at + n) ts
  behind_gap n [] size e all =
      let own : size - 0 ≡ n = omega (arith, e) in
      ap zeros own ∙ sym (append-nil (zeros n))
  behind_gap n (t ∷ ts) size e all =
      let start : ℕ = start_of origin (at + n) t in
      let rest : List ℕ = held t ++ linked.laid (start + length (held t)) (shown held (stood origin (start + size_of t) ts)) in
      let split : start - at ≡ n + (start - (at + n)) = omega arith in
      let same : linked.laid at (shown held (stood origin (at + n) (t ∷ ts))) ≡ zeros n ++ image.laid held origin (at + n) (t ∷ ts) =
      ap (λ (k : ℕ). zeros k ++ rest) split ∙ ap (λ (xs : List ℕ). xs ++ rest) (zeros_join n (start - (at + n))) ∙ append_assoc (zeros n) (zeros (start - (at + n))) rest
      ∙ ap (λ (xs : List ℕ). zeros n ++ xs) (laid_same held origin (at + n) (t ∷ ts) all) in
      let first = length-append (zeros n) (image.laid held origin (at + n) (t ∷ ts)) in
      let front = length-zeros n in
      let behind = length-laid held origin (at + n) (t ∷ ts) all in
      filled_equal size (linked.laid at (shown held (stood origin (at + n) (t ∷ ts)))) (zeros n ++ image.laid held origin (at + n) (t ∷ ts)) same (omega (arith, e, first, front, behind))

  -- which a header takes
  headless_same : (ts : List Thing) (size : ℕ) → size ≡ extent origin at ts → AllByRecursion (λ t. length (held t) ≡ size_of t) ts
      → filled_up size (linked.laid at (shown held (stood origin (at + 0) ts))) ≡ image.laid held origin at ts
  headless_same ts size e all =
      let here : at + 0 ≡ at = omega arith in
      filled_equal size (linked.laid at (shown held (stood origin (at + 0) ts))) (image.laid held origin at ts)
      (ap (λ (n : ℕ). linked.laid at (shown held (stood origin n ts))) here ∙ laid_same held origin at ts all) (length-laid held origin at ts all ∙ sym e)

  pub headed_same : (k : Kind) (n : ℕ) (ts : List Thing) (size : ℕ) → held Header ≡ front_of k → size ≡ extent origin at (header_in k n ++ ts)
      → AllByRecursion (λ t. length (held t) ≡ size_of t) ts
      → filled_up size (linked.laid at (shown held (stood origin (at + extent origin at (header_in k n)) ts))) ≡ image.laid held origin at (header_in k n ++ ts)
  headed_same (kind.Scatter s) n ts size has e all = headless_same ts size e all
  headed_same (kind.Plain base) n ts size has e all = headless_same ts size e all
  headed_same (kind.Aif base relocatable) (suc n) ts size has e all = headless_same ts size e all
  headed_same (kind.Aif base relocatable) zero ts size has e all =
      let g : ℕ = gap origin 4 at in
      let count : g + 128 + 0 ≡ g + 128 = omega arith in
      let behind : at + (g + 128 + 0) ≡ at + g + 128 = omega arith in
      let later : extent origin (at + (g + 128 + 0)) ts ≡ extent origin (at + g + 128) ts = ap (λ (m : ℕ). extent origin m ts) behind in
      behind_gap (g + 128 + 0) ts size (omega (arith, e, later)) all
      ∙ ap (λ (m : ℕ). zeros m ++ image.laid held origin (at + (g + 128 + 0)) ts) count
      ∙ ap (λ (m : ℕ). zeros (g + 128) ++ image.laid held origin m ts) behind
      ∙ ap (λ (xs : List ℕ). xs ++ image.laid held origin (at + g + 128) ts) (zeros_join g 128)
      ∙ append_assoc (zeros g) (zeros 128) (image.laid held origin (at + g + 128) ts)
      ∙ ap (λ (xs : List ℕ). zeros g ++ (xs ++ image.laid held origin (at + g + 128) ts)) (sym has)

-- ---- the startup code

areas_have_none : (items : List Item) → NoStartup (map AnArea items)
areas_have_none items = all_map (λ t. is_startup t ≡ false) AnArea items (all_indexed (λ i. false ≡ false) items (λ n i at. refl))

veneers_have_none : (vs : List RegionVeneer) → NoStartup (map (λ v. AVeneer v.target v.thumb) vs)
veneers_have_none vs = all_map (λ t. is_startup t ≡ false) (λ v. AVeneer v.target v.thumb) vs (all_indexed (λ v. false ≡ false) vs (λ n i at. refl))

-- what stands in a region before the startup code
abbrev pub own_areas : Contents → ℕ → List Item
own_areas c n = filter (λ i. not (is_zero_initialised i)) (areas_in c n)

abbrev pub before : Contents → ℕ → List Thing
before c n = map AnArea (own_areas c n) ++ veneers_in c n

before_none : (c : Contents) (n : ℕ) → NoStartup (before c n)
before_none c n = all_append (λ t. is_startup t ≡ false) (map AnArea (own_areas c n)) (veneers_in c n) (areas_have_none (own_areas c n)) (veneers_have_none (filter (λ v. v.region == n) c.veneers))

header_none : (k : Kind) (n : ℕ) → NoStartup (header_in k n)
header_none k n = header_all (λ t. is_startup t ≡ false) k n refl

pub things_are : (k : Kind) (c : Contents) (words : ℕ) (r : Planned) → IsShaped k c words r → r.things ≡ header_in k r.number ++ (before c r.number ++ startup_in k r.number words)
things_are k c words r shape =
    shape.things
    ∙ ap (λ (ts : List Thing). header_in k r.number ++ ts) (sym (append_assoc (map AnArea (own_areas c r.number)) (veneers_in c r.number) (startup_in k r.number words)))

first_is : (rs : List Planned) → AreCounted 0 rs → (j : ℕ) (r : Planned) → slice_get rs j ≡ Some r → r.number ≡ 0 → (rest : List Planned) × (rs ≡ r ∷ rest)
first_is [] counted j r at e = absurd cc
first_is (q ∷ rs) counted zero r at e = let is : q ≡ r = cc in (rs, ap (λ (x : Planned). x ∷ rs) is)
first_is (q ∷ rs) counted (suc j) r at e = let n = number_at 0 (q ∷ rs) counted (suc j) r at in absurd (omega (arith, n, e))

-- it stands behind that
boot_there : (k : Kind) (s : _) (c : Contents) (words : ℕ) → k ≡ kind.Scatter s → (j : ℕ) (r : Planned) → slice_get (regions_of (plan_for k c words)) j ≡ Some r → r.number ≡ 0
    → boot_address (plan_for k c words) ≡ Some (start_of r.origin (r.base + extent r.origin r.base (before c r.number)) (Startup words))
boot_there k s c words is j r at e =
    let rs : List Planned = regions_of (plan_for k c words) in
    let (rest, whole) = first_is rs (all_counted k c words) j r at e in
    let headless : header_in k r.number ≡ [] = ap (λ (q : Kind). header_in q r.number) is in
    let startup : startup_in k r.number words ≡ Startup words ∷ [] = ap (λ (q : Kind). startup_in q r.number words) is ∙ ap (λ (n : ℕ). startup_in (kind.Scatter s) n words) e in
    startup_stands words rs (record {
      region = r;
      rest = rest;
      whole = whole;
      before = before c r.number;
      things =
          things_are k c words r (all_at (IsShaped k c words) rs j r (all_shaped k c words) at)
          ∙ ap (λ (ts : List Thing). ts ++ (before c r.number ++ startup_in k r.number words)) headless ∙ ap (λ (ts : List Thing). before c r.number ++ ts) startup;
      none = before_none c r.number;
    })

stood_none : (origin at : ℕ) (ts : List Thing) → NoStartup ts → AllByRecursion (λ s. is_startup s.thing ≡ false) (stood origin at ts)
stood_none origin at [] none = tt
stood_none origin at (t ∷ ts) none = (none.0, stood_none origin (start_of origin at t + size_of t) ts none.1)

pub no_boot : (k : Kind) (c : Contents) (words : ℕ) → ((n : ℕ) → startup_in k n words ≡ []) → boot_address (plan_for k c words) ≡ None
no_boot k c words bare =
    let rs : List Planned = regions_of (plan_for k c words) in
    let none : AllByRecursion (λ r. AllByRecursion (λ s. is_startup s.thing ≡ false) (stood_in r)) rs =
    all_indexed (λ r. AllByRecursion (λ s. is_startup s.thing ≡ false) (stood_in r)) rs (λ j r at.
    let shape = all_at (IsShaped k c words) rs j r (all_shaped k c words) at in
    let things : NoStartup r.things =
    subst NoStartup (sym (things_are k c words r shape ∙ ap (λ (ts : List Thing). header_in k r.number ++ (before c r.number ++ ts)) (bare r.number)))
    (all_append (λ t. is_startup t ≡ false) (header_in k r.number) (before c r.number ++ []) (header_none k r.number)
    (all_append (λ t. is_startup t ≡ false) (before c r.number) [] (before_none c r.number) tt)) in
    let zeros : NoStartup r.zeros = subst NoStartup (sym shape.zeros) (areas_have_none (filter is_zero_initialised (areas_in c r.number))) in
    all_append (λ s. is_startup s.thing ≡ false) (stood r.origin r.base r.things) (stood r.origin (zero_base_of r) r.zeros)
    (stood_none r.origin r.base r.things things) (stood_none r.origin (zero_base_of r) r.zeros zeros)) in
    ap (option_map (λ s. s.address)) (none_found (λ s. is_startup s.thing) (flat_map stood_in rs) (all_flat (λ s. is_startup s.thing ≡ false) stood_in rs none))

-- where what follows the header begins
abbrev pub behind_header : Kind → Planned → ℕ
behind_header k r = r.base + extent r.origin r.base (header_in k r.number)

-- its piece is that of the plan
abbrev IsBooted : Kind → ℕ → ℕ → ℕ → ℕ → Option ℕ → Type 0
IsBooted (kind.Scatter s) zero words origin at boot = boot ≡ Some (start_of origin at (Startup words))
IsBooted (kind.Scatter s) (suc n) words origin at boot = Unit {0}
IsBooted (kind.Plain base) n words origin at boot = boot ≡ None
IsBooted (kind.Aif base relocatable) n words origin at boot = boot ≡ None

pub booted : (k : Kind) (c : Contents) (words : ℕ) (j : ℕ) (r : Planned) → slice_get (regions_of (plan_for k c words)) j ≡ Some r
    → IsBooted k r.number words r.origin (behind_header k r + extent r.origin (behind_header k r) (before c r.number)) (boot_address (plan_for k c words))
booted (kind.Scatter s) c words j r at = go r.number refl
  where
    go : (n : ℕ) → r.number ≡ n
        → IsBooted (kind.Scatter s) n words r.origin (behind_header (kind.Scatter s) r + extent r.origin (behind_header (kind.Scatter s) r) (before c r.number)) (boot_address (plan_for (kind.Scatter s) c words))
    go zero e =
        let own : r.base ≡ behind_header (kind.Scatter s) r = omega arith in
        boot_there (kind.Scatter s) s c words refl j r at e ∙ ap (λ (m : ℕ). Some (start_of r.origin (m + extent r.origin m (before c r.number)) (Startup words))) own
    go (suc n) e = tt
booted (kind.Plain base) c words j r at = no_boot (kind.Plain base) c words (λ n. refl)
booted (kind.Aif base relocatable) c words j r at = no_boot (kind.Aif base relocatable) c words (λ n. refl)

no_piece : (l : Link) (p : Placement) (m : ℕ) (r : Region) → startup_piece l p m r None ≡ []
no_piece l p zero r = refl
no_piece l p (suc m) r = refl

pub startup_shown : (k : Kind) (n words : ℕ) (l : Link) (p : Placement) (origin at : ℕ) (r : Region) (held : Thing → List ℕ)
    → IsBooted k n words origin at p.boot → r.base + r.length ≡ at + extent origin at (startup_in k n words)
    → held (Startup words) ≡ startup_list l p ++ zeros (4 * (words - length (table_list (copy_rows p) (zero_rows p) (entry_of l p))))
    → startup_piece l p n r p.boot ≡ shown held (stood origin at (startup_in k n words))
startup_shown (kind.Scatter s) zero words l p origin at r held boot end bytes =
    let a : ℕ = start_of origin at (Startup words) in
    let table : List ℕ = table_list (copy_rows p) (zero_rows p) (entry_of l p) in
    let size : length (startup_list l p) ≡ 4 * (length boot_list + length table) = words_length (boot_list ++ table) ∙ ap (λ (x : ℕ). 4 * x) (length-append boot_list table) in
    let room : r.base + r.length - a - length (startup_list l p) ≡ 4 * (words - length table) = omega (arith, size, end) in
    ap (λ (o : Option ℕ). startup_piece l p 0 r o) boot
    ∙ ap (λ (bytes : List ℕ). (a, bytes) ∷ []) (ap (λ (x : ℕ). startup_list l p ++ zeros x) room ∙ sym bytes)
startup_shown (kind.Scatter s) (suc n) words l p origin at r held boot end bytes = refl
startup_shown (kind.Plain base) n words l p origin at r held boot end bytes = ap (λ (o : Option ℕ). startup_piece l p n r o) boot ∙ no_piece l p n r
startup_shown (kind.Aif base relocatable) n words l p origin at r held boot end bytes = ap (λ (o : Option ℕ). startup_piece l p n r o) boot ∙ no_piece l p n r

-- ---- parts of a list

pub four_parts : {X Y : Type 0} (f : List X → List Y) → ((xs ys : List X) → f (xs ++ ys) ≡ f xs ++ f ys) → (a b c d : List X)
    → f (((a ++ b) ++ c) ++ d) ≡ ((f a ++ f b) ++ f c) ++ f d
four_parts f each a b c d =
    each ((a ++ b) ++ c) d
    ∙ ap (λ xs. xs ++ f d) (each (a ++ b) c ∙ ap (λ xs. xs ++ f c) (each a b))

pub first_alone : {Y : Type 0} (x : List Y) (a b c d : List Y) → a ≡ x → b ≡ [] → c ≡ [] → d ≡ [] → ((a ++ b) ++ c) ++ d ≡ x
first_alone x a b c d ea eb ec ed = rw (ea, eb, ec, ed) (append-nil ((x ++ []) ++ []) ∙ append-nil (x ++ []) ∙ append-nil x)

pub second_alone : {Y : Type 0} (x : List Y) (a b c d : List Y) → a ≡ [] → b ≡ x → c ≡ [] → d ≡ [] → ((a ++ b) ++ c) ++ d ≡ x
second_alone x a b c d ea eb ec ed = rw (ea, eb, ec, ed) (append-nil (x ++ []) ∙ append-nil x)

-- ---- what gives no piece

abbrev pub HasNoArea : Thing → Type 0
HasNoArea t = (n a : ℕ) → area_of n t a ≡ []

abbrev pub HasNoVeneer : Thing → Type 0
HasNoVeneer t = (n a : ℕ) → veneer_of n t a ≡ []

pub no_areas : (n origin at : ℕ) (ts : List Thing) → AllByRecursion HasNoArea ts → flat_map (λ s. area_of n s.thing s.address) (stood origin at ts) ≡ []
no_areas n origin at [] none = refl
no_areas n origin at (t ∷ ts) none =
    ap (λ (xs : List PlacedArea). xs ++ flat_map (λ s. area_of n s.thing s.address) (stood origin (start_of origin at t + size_of t) ts)) (none.0 n (start_of origin at t))
    ∙ no_areas n origin (start_of origin at t + size_of t) ts none.1

pub no_veneers : (n origin at : ℕ) (ts : List Thing) → AllByRecursion HasNoVeneer ts → flat_map (λ s. veneer_of n s.thing s.address) (stood origin at ts) ≡ []
no_veneers n origin at [] none = refl
no_veneers n origin at (t ∷ ts) none =
    ap (λ (xs : List PlacedVeneer). xs ++ flat_map (λ s. veneer_of n s.thing s.address) (stood origin (start_of origin at t + size_of t) ts)) (none.0 n (start_of origin at t))
    ∙ no_veneers n origin (start_of origin at t + size_of t) ts none.1

pub areas_no_veneers : (items : List Item) → AllByRecursion HasNoVeneer (map AnArea items)
areas_no_veneers items = all_map HasNoVeneer AnArea items (all_indexed (λ i. HasNoVeneer (AnArea i)) items (λ m i at n a. refl))

pub veneers_no_areas : (vs : List RegionVeneer) → AllByRecursion HasNoArea (map (λ v. AVeneer v.target v.thumb) vs)
veneers_no_areas vs = all_map HasNoArea (λ v. AVeneer v.target v.thumb) vs (all_indexed (λ v. HasNoArea (AVeneer v.target v.thumb)) vs (λ m v at n a. refl))
