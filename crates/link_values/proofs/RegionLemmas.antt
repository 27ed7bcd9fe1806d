-- Region symbols by indexes are those of the definition.
use Rattle.std.proofs.Common.{◌≡◌, ℕ, ◌-◌, zero, suc, Bool, true, false, cond, List, [], ◌∷◌, ◌++◌, length, map, take, drop, Option, Some, None, refl, sym, ap, ◌∙◌, arith, length-append}
use Rattle.std.specs.Prelude.{codes, ◌&&◌, ◌||◌, min, max, nat_eq, unwrap_or, slice_get}
use Rattle.std.specs.List.{ends_with, filter, find}
use Rattle.std.specs.Option.{option_map, option_and_then, option_or}
use Rattle.std.specs.Str.{bytes_eq}
use Rattle.std.proofs.lemmas.List.{take-append-drop}
use Rattle.std.proofs.lemmas.Slice.Eq.{bytes_eq-Decides}
use Rattle.std.proofs.Math.Seq.{take-append_seam, drop-append_seam}
use Rattle.aof_object.specs.declared.records.Area.{Area}
use Rattle.aof_object.specs.declared.records.Object.{Object}
use Rattle.aof_object.specs.Names.{among}
use Rattle.aof_object.specs.Spelling.{area_names}
use Rattle.aof_object.proofs.ValidLaw.{and_true}
use Rattle.base_lemmas.proofs.BaseLemmas.{both, first_of_both, second_of_both, or_true, true_or}
use Rattle.link_model.specs.declared.placing.PlacedArea.{PlacedArea}
use Rattle.link_model.specs.declared.placing.Placement.{Placement}
use Rattle.link_model.specs.RegionNames.{names_of_areas}
use Rattle.link_model.specs.RegionValues.{area_of, has_name, end_of, least, greatest, least_start, greatest_end, number_of_area, numbers_by, reduced_by}
use Rattle.link_values.specs.declared.extents.Extent.{Extent}
use Rattle.link_values.specs.declared.regions.RegionSymbols.{RegionSymbols}
use Rattle.link_values.specs.Index.{Index, found_in}
use Rattle.link_values.specs.Regions.{widened, extent_of, extent_in, AreExtents, AreNumbers, stem_extent, area_number, AreSymbols}

-- ---- what a name has where it is equal to another

pub same_name : {A : Type 0} (f : List ℕ → A) (name q : List ℕ) (other : A) → cond (bytes_eq name q) (f name) other ≡ cond (bytes_eq name q) (f q) other
same_name f name q other = by_test (bytes_eq name q) (bytes_eq-Decides name q).0
  where
    by_test : (b : Bool) → (b ≡ true → name ≡ q) → cond b (f name) other ≡ cond b (f q) other
    by_test true same = ap f (same refl)
    by_test false same = refl

-- ---- extents

min_same : (x : ℕ) → x ≡ min x x
min_same x = omega arith

max_same : (x : ℕ) → x ≡ max x x
max_same x = omega arith

least_more : (e : Extent) (o : Option Extent) (ys : List ℕ) → option_map (λ f. f.start) o ≡ least ys → Some ((widened e o).start) ≡ Some (min e.start (unwrap_or (least ys) e.start))
least_more e None ys h = ap Some (min_same e.start) ∙ ap (λ (l : Option ℕ). Some (min e.start (unwrap_or l e.start))) h
least_more e (Some f) ys h = ap (λ (l : Option ℕ). Some (min e.start (unwrap_or l e.start))) h

greatest_more : (e : Extent) (o : Option Extent) (ys : List ℕ) → option_map (λ f. f.end) o ≡ greatest ys → Some ((widened e o).end) ≡ Some (max e.end (unwrap_or (greatest ys) e.end))
greatest_more e None ys h = ap Some (max_same e.end) ∙ ap (λ (l : Option ℕ). Some (max e.end (unwrap_or l e.end))) h
greatest_more e (Some f) ys h = ap (λ (l : Option ℕ). Some (max e.end (unwrap_or l e.end))) h

abbrev named : List Object → List ℕ → List PlacedArea → List PlacedArea
named os q areas = filter (λ a. has_name q (area_of os a.area)) areas

start_of : (os : List Object) (q : List ℕ) (areas : List PlacedArea) → option_map (λ e. e.start) (extent_in os q areas) ≡ least (map (λ a. a.address) (named os q areas))
start_of os q [] = refl
start_of os q (a ∷ rest) = step (has_name q (area_of os a.area)) (start_of os q rest)
  where
    step : (b : Bool) → option_map (λ e. e.start) (extent_in os q rest) ≡ least (map (λ a. a.address) (named os q rest))
        → option_map (λ e. e.start) (cond b (Some (widened (extent_of os a) (extent_in os q rest))) (extent_in os q rest)) ≡ least (map (λ a. a.address) (cond b (a ∷ named os q rest) (named os q rest)))
    step true h = least_more (extent_of os a) (extent_in os q rest) (map (λ a. a.address) (named os q rest)) h
    step false h = h

end_in : (os : List Object) (q : List ℕ) (areas : List PlacedArea) → option_map (λ e. e.end) (extent_in os q areas) ≡ greatest (map (end_of os) (named os q areas))
end_in os q [] = refl
end_in os q (a ∷ rest) = step (has_name q (area_of os a.area)) (end_in os q rest)
  where
    step : (b : Bool) → option_map (λ e. e.end) (extent_in os q rest) ≡ greatest (map (end_of os) (named os q rest))
        → option_map (λ e. e.end) (cond b (Some (widened (extent_of os a) (extent_in os q rest))) (extent_in os q rest)) ≡ greatest (map (end_of os) (cond b (a ∷ named os q rest) (named os q rest)))
    step true h = greatest_more (extent_of os a) (extent_in os q rest) (map (end_of os) (named os q rest)) h
    step false h = h

-- ---- the name of a placed area is among the names of areas

among_both : (q : List ℕ) (xs ys : List (List ℕ)) → (among q xs || among q ys) ≡ true → among q (xs ++ ys) ≡ true
among_both q [] ys h = h
among_both q (x ∷ xs) ys h = by_test (bytes_eq x q) (among_both q xs ys) h
  where
    by_test : (b : Bool) → ((among q xs || among q ys) ≡ true → among q (xs ++ ys) ≡ true) → ((b || among q xs) || among q ys) ≡ true → (b || among q (xs ++ ys)) ≡ true
    by_test true rest h = refl
    by_test false rest h = rest h

among_areas : (q : List ℕ) (areas : List Area) (k : ℕ) → has_name q (slice_get areas k) ≡ true → among q (area_names areas) ≡ true
among_areas q [] k h = absurd (cc)
among_areas q (a ∷ areas) zero h = true_or (bytes_eq a.name q) (among q (area_names areas)) h
among_areas q (a ∷ areas) (suc k) h = or_true (bytes_eq a.name q) (among q (area_names areas)) (among_areas q areas k h)

among_objects : (q : List ℕ) (os : List Object) (i k : ℕ) → has_name q (option_and_then (λ o. slice_get o.areas k) (slice_get os i)) ≡ true → among q (names_of_areas os) ≡ true
among_objects q [] i k h = absurd (cc)
among_objects q (o ∷ os) zero k h =
    among_both q (area_names o.areas) (names_of_areas os) (true_or (among q (area_names o.areas)) (among q (names_of_areas os)) (among_areas q o.areas k h))
among_objects q (o ∷ os) (suc i) k h =
    among_both q (area_names o.areas) (names_of_areas os) (or_true (among q (area_names o.areas)) (among q (names_of_areas os)) (among_objects q os i k h))

none_named : (os : List Object) (q : List ℕ) → among q (names_of_areas os) ≡ false → (areas : List PlacedArea) → named os q areas ≡ []
none_named os q absent [] = refl
none_named os q absent (a ∷ rest) = by_test (has_name q (area_of os a.area)) (among_objects q os a.area.object a.area.area) (none_named os q absent rest)
  where
    by_test : (b : Bool) → (b ≡ true → among q (names_of_areas os) ≡ true) → named os q rest ≡ [] → cond b (a ∷ named os q rest) (named os q rest) ≡ []
    by_test true there none = absurd (let t = there refl in cc)
    by_test false there none = none

-- ---- what stands before a suffix

are_equal : (a b : List ℕ) → a ≡ b → bytes_eq a b ≡ true
are_equal a b e = (bytes_eq-Decides a b).1 e

ended : (s q a : List ℕ) → bytes_eq (a ++ s) q ≡ (ends_with nat_eq q s && bytes_eq a (take (length q - length s) q))
ended s q a = both (bytes_eq (a ++ s) q) (ends_with nat_eq q s && bytes_eq a (take (length q - length s) q))
    (λ t. there ((bytes_eq-Decides (a ++ s) q).0 t))
    (λ t. are_equal (a ++ s) q
    (let e : s ≡ drop (length q - length s) q = (bytes_eq-Decides s (drop (length q - length s) q)).0 (first_of_both (ends_with nat_eq q s) (bytes_eq a (take (length q - length s) q)) t) in
    let f : a ≡ take (length q - length s) q = (bytes_eq-Decides a (take (length q - length s) q)).0 (second_of_both (ends_with nat_eq q s) (bytes_eq a (take (length q - length s) q)) t) in
    (λ i. f i ++ e i) ∙ take-append-drop (length q - length s) q))
  where
    there : a ++ s ≡ q → (ends_with nat_eq q s && bytes_eq a (take (length q - length s) q)) ≡ true
    there e =
        let m : length a ≡ length q - length s = let k = length-append a s in let l = ap (λ (x : List ℕ). length x) e in omega arith in
        and_true (ends_with nat_eq q s) (bytes_eq a (take (length q - length s) q))
        (are_equal s (drop (length q - length s) q) (sym (drop-append_seam a s) ∙ (λ i. drop (m i) (e i))))
        (are_equal a (take (length q - length s) q) (sym (take-append_seam a s) ∙ (λ i. take (m i) (e i))))

nothing : (names : List (List ℕ)) → find (λ a. false) names ≡ None
nothing [] = refl
nothing (a ∷ names) = nothing names

first_named : (f : List ℕ → Option ℕ) (b : Bool) (stem : List ℕ) (names : List (List ℕ)) → (among stem names ≡ false → f stem ≡ None)
    → option_and_then f (find (λ a. b && bytes_eq a stem) names) ≡ cond b (f stem) None
first_named f false stem names absent = ap (option_and_then f) (nothing names)
first_named f true stem [] absent = sym (absent refl)
first_named f true stem (a ∷ names) absent = by_test (bytes_eq a stem) (bytes_eq-Decides a stem).0 (first_named f true stem names) absent
  where
    by_test : (b : Bool) → (b ≡ true → a ≡ stem)
        → ((among stem names ≡ false → f stem ≡ None) → option_and_then f (find (λ a. bytes_eq a stem) names) ≡ f stem)
        → ((b || among stem names) ≡ false → f stem ≡ None)
        → option_and_then f (cond b (Some a) (find (λ a. bytes_eq a stem) names)) ≡ f stem
    by_test true same rest absent = ap f (same refl)
    by_test false same rest absent = rest absent

-- ---- the numbers

with_suffix : (f : List ℕ → Option ℕ) (names : List (List ℕ)) (s q : List ℕ) → ((stem : List ℕ) → among stem names ≡ false → f stem ≡ None)
    → option_and_then f (find (λ a. bytes_eq (a ++ s) q) names) ≡ cond (ends_with nat_eq q s) (f (take (length q - length s) q)) None
with_suffix f names s q absent =
    ap (λ (test : List ℕ → Bool). option_and_then f (find test names)) (λ i a. ended s q a i)
    ∙ first_named f (ends_with nat_eq q s) (take (length q - length s) q) names (absent (take (length q - length s) q))

through : (b : Bool) (g : Extent → ℕ) (o : Option Extent) → option_map g (cond b o None) ≡ cond b (option_map g o) None
through true g o = refl
through false g o = refl

no_start : (os : List Object) (p : Placement) (stem : List ℕ) → among stem (names_of_areas os) ≡ false → least_start os p stem ≡ None
no_start os p stem h = ap (λ (l : List PlacedArea). least (map (λ a. a.address) l)) (none_named os stem h p.areas)

no_end : (os : List Object) (p : Placement) (stem : List ℕ) → among stem (names_of_areas os) ≡ false → greatest_end os p stem ≡ None
no_end os p stem h = ap (λ (l : List PlacedArea). greatest (map (end_of os) l)) (none_named os stem h p.areas)

of_stem : (os : List Object) (p : Placement) (m : Index Extent) (g : Extent → ℕ) (f : List ℕ → Option ℕ) → AreExtents os p.areas m
    → ((stem : List ℕ) → among stem (names_of_areas os) ≡ false → f stem ≡ None) → ((stem : List ℕ) → option_map g (extent_in os stem p.areas) ≡ f stem)
    → (s q : List ℕ) → option_map g (stem_extent m s q) ≡ option_and_then f (find (λ a. bytes_eq (a ++ s) q) (names_of_areas os))
of_stem os p m g f known absent same s q =
    let stem = take (length q - length s) q in
    through (ends_with nat_eq q s) g (found_in m stem)
    ∙ ap (λ (o : Option ℕ). cond (ends_with nat_eq q s) o None) (ap (option_map g) (known stem) ∙ same stem)
    ∙ sym (with_suffix f (names_of_areas os) s q absent)

area_same : (os : List Object) (p : Placement) (m : Index Extent) → AreExtents os p.areas m → (q : List ℕ) → area_number m q ≡ number_of_area os p q
area_same os p m known q =
    let base = of_stem os p m (λ e. e.start) (least_start os p) known (no_start os p) (λ stem. start_of os stem p.areas) (codes "$$Base") q in
    let limit = of_stem os p m (λ e. e.end) (greatest_end os p) known (no_end os p) (λ stem. end_in os stem p.areas) (codes "$$Limit") q in
    λ i. option_or (base i) (limit i)

pub region_same : (os : List Object) (p : Placement) (symbols : RegionSymbols) → symbols.boot ≡ p.boot → AreNumbers (numbers_by p.boot p.regions) symbols.numbers
    → AreExtents os p.areas symbols.extents → AreSymbols os p symbols
region_same os p symbols boot numbers extents q =
    λ i. option_map (reduced_by (boot i)) (option_or (numbers q i) (area_same os p symbols.extents extents q i))
