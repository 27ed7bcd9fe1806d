-- A placement that is moved: where its areas, veneers and region symbols are.
use Rattle.std.proofs.Common.{◌≡◌, ℕ, ◌+◌, ◌%◌, ◌^◌, Bool, true, false, cond, List, [], ◌∷◌, map, min, max, refl, sym, ap, ◌∙◌, arith, Option, Some, None}
use Rattle.std.specs.Prelude.{unwrap_or, is_some}
use Rattle.std.specs.List.{filter, find, flat_map}
use Rattle.std.specs.Option.{option_map, option_and_then, option_or}
use Rattle.std.specs.Str.{bytes_eq}
use Rattle.aof_object.specs.declared.records.Object.{Object}
use Rattle.patch_model.specs.Fields.{Home}
use Rattle.link_model.specs.declared.placing.PlacedArea.{PlacedArea}
use Rattle.link_model.specs.declared.placing.PlacedVeneer.{PlacedVeneer}
use Rattle.link_model.specs.declared.placing.Placement.{Placement}
use Rattle.link_model.specs.declared.placing.Region.{Region}
use Rattle.link_model.specs.RegionNames.{image_base, image_limit, area_base, area_limit, names_of_areas}
use Rattle.link_model.specs.RegionValues.{plain_numbers, numbers_by, area_of, has_name, areas_named, end_of, least, greatest, least_start, greatest_end, number_of_area, reduced_by, region_number}
use Rattle.link_values.specs.Placed.{is_area, base_in}
use Rattle.link_apply.specs.Placed.{leads_to, veneers_at}
use Rattle.link_laws.proofs.ReducedLemmas.{plain_base, reduced_moves}
use Rattle.link_laws.proofs.Shifts.Plans.{flat_moves}

abbrev pub moved_place : ℕ → Region → Region
moved_place by r = record r { load = r.load + by; base = r.base + by }

abbrev pub moved_area : ℕ → PlacedArea → PlacedArea
moved_area by a = record a { address = a.address + by }

abbrev pub moved_veneer : ℕ → PlacedVeneer → PlacedVeneer
moved_veneer by v = record v { address = v.address + by }

abbrev pub moved_placement : ℕ → Placement → Placement
moved_placement by p = record {
  regions = map (moved_place by) p.regions;
  areas = map (moved_area by) p.areas;
  veneers = map (moved_veneer by) p.veneers;
  boot = option_map (λ a. a + by) p.boot;
}

-- ---- lists of what is moved

pub find_moves : {X Y : Type 0} (u : X → Y) (test : Y → Bool) (own : X → Bool) → ((x : X) → test (u x) ≡ own x) → (xs : List X) → find test (map u xs) ≡ option_map u (find own xs)
find_moves u test own same [] = refl
find_moves {X} {Y} u test own same (x ∷ xs) = ap (λ (b : Bool). cond b (Some (u x)) (find test (map u xs))) (same x) ∙ go (own x) (find_moves u test own same xs)
  where
    go : (b : Bool) → find test (map u xs) ≡ option_map u (find own xs) → cond b (Some (u x)) (find test (map u xs)) ≡ option_map u (cond b (Some x) (find own xs))
    go true rest = refl
    go false rest = rest

filter_moves : {X : Type 0} (u : X → X) (test : X → Bool) → ((x : X) → test (u x) ≡ test x) → (xs : List X) → filter test (map u xs) ≡ map u (filter test xs)
filter_moves u test same [] = refl
filter_moves {X} u test same (x ∷ xs) = ap (λ (b : Bool). cond b (u x ∷ filter test (map u xs)) (filter test (map u xs))) (same x) ∙ go (test x) (filter_moves u test same xs)
  where
    go : (b : Bool) → filter test (map u xs) ≡ map u (filter test xs) → cond b (u x ∷ filter test (map u xs)) (filter test (map u xs)) ≡ map u (cond b (x ∷ filter test xs) (filter test xs))
    go true rest = ap (λ (ys : List X). u x ∷ ys) rest
    go false rest = rest

numbers_move : {X : Type 0} (by : ℕ) (u : X → X) (f : X → ℕ) → ((x : X) → f (u x) ≡ f x + by) → (xs : List X) → map f (map u xs) ≡ map (λ n. n + by) (map f xs)
numbers_move by u f same [] = refl
numbers_move by u f same (x ∷ xs) = ap (λ n. n ∷ map f (map u xs)) (same x) ∙ ap (λ (ns : List ℕ). (f x + by) ∷ ns) (numbers_move by u f same xs)

least_moves : (by : ℕ) (xs : List ℕ) → least (map (λ n. n + by) xs) ≡ option_map (λ n. n + by) (least xs)
least_moves by [] = refl
least_moves by (x ∷ xs) = ap (λ (o : Option ℕ). Some (min (x + by) (unwrap_or o (x + by)))) (least_moves by xs) ∙ go (least xs)
  where
    go : (o : Option ℕ) → Some (min (x + by) (unwrap_or (option_map (λ n. n + by) o) (x + by))) ≡ Some (min x (unwrap_or o x) + by)
    go None = ap (λ (n : ℕ). Some n) (omega arith)
    go (Some y) = ap (λ (n : ℕ). Some n) (omega arith)

greatest_moves : (by : ℕ) (xs : List ℕ) → greatest (map (λ n. n + by) xs) ≡ option_map (λ n. n + by) (greatest xs)
greatest_moves by [] = refl
greatest_moves by (x ∷ xs) = ap (λ (o : Option ℕ). Some (max (x + by) (unwrap_or o (x + by)))) (greatest_moves by xs) ∙ go (greatest xs)
  where
    go : (o : Option ℕ) → Some (max (x + by) (unwrap_or (option_map (λ n. n + by) o) (x + by))) ≡ Some (max x (unwrap_or o x) + by)
    go None = ap (λ (n : ℕ). Some n) (omega arith)
    go (Some y) = ap (λ (n : ℕ). Some n) (omega arith)

then_moves : {X : Type 0} (by : ℕ) (f g : X → Option ℕ) → ((x : X) → f x ≡ option_map (λ n. n + by) (g x)) → (o : Option X) → option_and_then f o ≡ option_map (λ n. n + by) (option_and_then g o)
then_moves by f g same None = refl
then_moves by f g same (Some x) = same x

or_moves : (by : ℕ) (o p : Option ℕ) → option_or (option_map (λ n. n + by) o) (option_map (λ n. n + by) p) ≡ option_map (λ n. n + by) (option_or o p)
or_moves by None p = refl
or_moves by (Some x) p = refl

-- ---- areas and veneers

pub find_area_moves : (by : ℕ) (p : Placement) (object area : ℕ) → find (is_area object area) (moved_placement by p).areas ≡ option_map (moved_area by) (find (is_area object area) p.areas)
find_area_moves by p object area = find_moves (moved_area by) (is_area object area) (is_area object area) (λ a. refl) p.areas

-- where no address is reduced
pub base_moves : (by : ℕ) (p : Placement) → p.boot ≡ None → (object area : ℕ) → is_some (find (is_area object area) p.areas) ≡ true
    → base_in (moved_placement by p) object area ≡ base_in p object area + by
base_moves by p none object area there =
    plain_base (moved_placement by p) object area (ap (option_map (λ n. n + by)) none)
    ∙ ap (λ (o : Option PlacedArea). unwrap_or (option_map (λ a. a.address) o) 0) (find_area_moves by p object area) ∙ go (find (is_area object area) p.areas) there
    ∙ ap (λ (n : ℕ). n + by) (sym (plain_base p object area none))
  where
    go : (o : Option PlacedArea) → is_some o ≡ true → unwrap_or (option_map (λ a. a.address) (option_map (moved_area by) o)) 0 ≡ unwrap_or (option_map (λ a. a.address) o) 0 + by
    go None e = absurd cc
    go (Some a) e = refl

-- a place modulo 2^32
pub place_moves : (by : ℕ) (p : Placement) (object area offset : ℕ) → is_some (find (is_area object area) p.areas) ≡ true
    → (base_in (moved_placement by p) object area + offset) % 2 ^ 32 ≡ (base_in p object area + by + offset) % 2 ^ 32
place_moves by p object area offset there =
    ap (λ (o : Option PlacedArea). (unwrap_or (option_map (λ a. reduced_by (moved_placement by p).boot a.address) o) 0 + offset) % 2 ^ 32) (find_area_moves by p object area)
    ∙ go (find (is_area object area) p.areas) there
  where
    go : (o : Option PlacedArea) → is_some o ≡ true
        → (unwrap_or (option_map (λ a. reduced_by (moved_placement by p).boot a.address) (option_map (moved_area by) o)) 0 + offset) % 2 ^ 32
        ≡ (unwrap_or (option_map (λ a. reduced_by p.boot a.address) o) 0 + by + offset) % 2 ^ 32
    go None e = absurd cc
    go (Some a) e = reduced_moves p.boot (moved_placement by p).boot a.address by offset

pub veneers_move : (by : ℕ) (p : Placement) (region : ℕ) (target : Home) (thumb : Bool) → veneers_at (moved_placement by p) region target thumb ≡ option_map (λ y. y + by) (veneers_at p region target thumb)
veneers_move by p region target thumb =
    ap (option_map (λ v. v.address)) (find_moves (moved_veneer by) (λ v. leads_to region target thumb v.veneer) (λ v. leads_to region target thumb v.veneer) (λ v. refl) p.veneers)
    ∙ go (find (λ v. leads_to region target thumb v.veneer) p.veneers)
  where
    go : (o : Option PlacedVeneer) → option_map (λ v. v.address) (option_map (moved_veneer by) o) ≡ option_map (λ y. y + by) (option_map (λ v. v.address) o)
    go None = refl
    go (Some v) = refl

-- ---- region symbols

abbrev moved_number : ℕ → List ℕ × ℕ → List ℕ × ℕ
moved_number by e = (e.0, e.1 + by)

plain_moves : (by : ℕ) (r : Region) → plain_numbers (moved_place by r) ≡ map (moved_number by) (plain_numbers r)
plain_moves by r =
    let limit : r.base + by + r.length + r.zero ≡ r.base + r.length + r.zero + by = omega arith in
    ap (λ n. (image_base r.name, r.base + by) ∷ (image_limit r.name, n) ∷ []) limit

region_moves : (by : ℕ) (rs : List Region) (q : List ℕ)
    → option_map (λ e. e.1) (find (λ e. bytes_eq e.0 q) (flat_map plain_numbers (map (moved_place by) rs))) ≡ option_map (λ n. n + by) (option_map (λ e. e.1) (find (λ e. bytes_eq e.0 q) (flat_map plain_numbers rs)))
region_moves by rs q =
    ap (λ (es : List (List ℕ × ℕ)). option_map (λ e. e.1) (find (λ e. bytes_eq e.0 q) es)) (flat_moves plain_numbers (moved_place by) (moved_number by) plain_numbers (plain_moves by) rs)
    ∙ ap (option_map (λ e. e.1)) (find_moves (moved_number by) (λ e. bytes_eq e.0 q) (λ e. bytes_eq e.0 q) (λ e. refl) (flat_map plain_numbers rs)) ∙ go (find (λ e. bytes_eq e.0 q) (flat_map plain_numbers rs))
  where
    go : (o : Option (List ℕ × ℕ)) → option_map (λ e. e.1) (option_map (moved_number by) o) ≡ option_map (λ n. n + by) (option_map (λ e. e.1) o)
    go None = refl
    go (Some e) = refl

named_move : (by : ℕ) (os : List Object) (p : Placement) (q : List ℕ) → areas_named os (moved_placement by p) q ≡ map (moved_area by) (areas_named os p q)
named_move by os p q = filter_moves (moved_area by) (λ a. has_name q (area_of os a.area)) (λ a. refl) p.areas

start_moves : (by : ℕ) (os : List Object) (p : Placement) (q : List ℕ) → least_start os (moved_placement by p) q ≡ option_map (λ n. n + by) (least_start os p q)
start_moves by os p q =
    ap (λ (xs : List PlacedArea). least (map (λ a. a.address) xs)) (named_move by os p q) ∙ ap least (numbers_move by (moved_area by) (λ a. a.address) (λ a. refl) (areas_named os p q))
    ∙ least_moves by (map (λ a. a.address) (areas_named os p q))

limit_moves : (by : ℕ) (os : List Object) (p : Placement) (q : List ℕ) → greatest_end os (moved_placement by p) q ≡ option_map (λ n. n + by) (greatest_end os p q)
limit_moves by os p q =
    ap (λ (xs : List PlacedArea). greatest (map (end_of os) xs)) (named_move by os p q) ∙ ap greatest (numbers_move by (moved_area by) (end_of os) (λ a. omega arith) (areas_named os p q))
    ∙ greatest_moves by (map (end_of os) (areas_named os p q))

area_moves : (by : ℕ) (os : List Object) (p : Placement) (q : List ℕ) → number_of_area os (moved_placement by p) q ≡ option_map (λ n. n + by) (number_of_area os p q)
area_moves by os p q =
    let base : Option (List ℕ) = find (λ a. bytes_eq (area_base a) q) (names_of_areas os) in
    let limit : Option (List ℕ) = find (λ a. bytes_eq (area_limit a) q) (names_of_areas os) in
    ap (λ (o : Option ℕ). option_or o (option_and_then (greatest_end os (moved_placement by p)) limit)) (then_moves by (least_start os (moved_placement by p)) (least_start os p) (start_moves by os p) base)
    ∙ ap (λ (o : Option ℕ). option_or (option_map (λ n. n + by) (option_and_then (least_start os p) base)) o) (then_moves by (greatest_end os (moved_placement by p)) (greatest_end os p) (limit_moves by os p) limit)
    ∙ or_moves by (option_and_then (least_start os p) base) (option_and_then (greatest_end os p) limit)

-- without startup code all of them move
pub symbol_moves : (by : ℕ) (os : List Object) (p : Placement) → p.boot ≡ None → (q : List ℕ) → region_number os (moved_placement by p) q ≡ option_map (λ n. n + by) (region_number os p q)
symbol_moves by os p none q =
    let regions : Option ℕ → List Region → Option ℕ = λ b rs. option_map (λ e. e.1) (find (λ e. bytes_eq e.0 q) (numbers_by b rs)) in
    let Of : Option ℕ → Placement → Option ℕ = λ b z. option_map (reduced_by b) (option_or (regions b z.regions) (number_of_area os z q)) in
    let left : Of (option_map (λ a. a + by) p.boot) (moved_placement by p) ≡ Of None (moved_placement by p) = ap (λ (b : Option ℕ). Of (option_map (λ a. a + by) b) (moved_placement by p)) none in
    let right : Of p.boot p ≡ Of None p = ap (λ (b : Option ℕ). Of b p) none in
    left
    ∙ ap (λ (o : Option ℕ). option_map (reduced_by None) (option_or o (number_of_area os (moved_placement by p) q))) (region_moves by p.regions q)
    ∙ ap (λ (o : Option ℕ). option_map (reduced_by None) (option_or (option_map (λ n. n + by) (regions None p.regions)) o)) (area_moves by os p q)
    ∙ ap (option_map (reduced_by None)) (or_moves by (regions None p.regions) (number_of_area os p q))
    ∙ go (option_or (regions None p.regions) (number_of_area os p q)) ∙ ap (option_map (λ n. n + by)) (sym right)
  where
    go : (o : Option ℕ) → option_map (reduced_by None) (option_map (λ n. n + by) o) ≡ option_map (λ n. n + by) (option_map (reduced_by None) o)
    go None = refl
    go (Some n) = refl
