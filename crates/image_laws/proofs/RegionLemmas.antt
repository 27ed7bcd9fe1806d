-- Regions: where things stand in their bytes, and where the startup code stands.
use Rattle.std.proofs.Common.{◌≡◌, ℕ, ◌+◌, false, not, ◌==◌, List, [], ◌∷◌, ◌++◌, length, length-append, append_assoc, map, refl, sym, ap, ◌∙◌, arith, Some}
use Rattle.std.specs.List.{filter, flat_map, AllByRecursion}
use Rattle.base_lemmas.proofs.BaseLemmas.{all_append}
use Rattle.boot_code.specs.Startup.{zeros}
use Rattle.boot_code.proofs.ViewLemmas.{length-zeros}
use Rattle.place_model.specs.declared.scatter.Kind.TheVariants as kind
use Rattle.place_model.specs.declared.scatter.Scatter.{Scatter}
use Rattle.place_model.specs.declared.scatter.ScatterLoad.{ScatterLoad}
use Rattle.place_model.specs.declared.scatter.ScatterRegion.{ScatterRegion}
use Rattle.place_model.specs.Items.{Item, is_zero_initialised}
use Rattle.place_model.specs.Things.{Thing, AnArea, AVeneer, Startup, alignment_of, size_of, gap, start_of, extent, Stood, stood}
use Rattle.place_model.specs.Plans.{Contents, RegionVeneer, areas_in, veneers_in, Planned, planned, planned_from, loads_from, regions_of, stood_in, is_startup, address_of}
use Rattle.image_model.specs.Regions.{laid}

-- ---- bytes of things

abbrev pub Sizes : (Thing → List ℕ) → List Thing → Type 0
Sizes held ts = AllByRecursion (λ t. length (held t) ≡ size_of t) ts

pub length-laid : (held : Thing → List ℕ) (origin at : ℕ) (ts : List Thing) → Sizes held ts → length (laid held origin at ts) ≡ extent origin at ts
length-laid held origin at [] all = refl
length-laid held origin at (t ∷ ts) all =
    let rest = length-laid held origin (start_of origin at t + size_of t) ts all.1 in
    let size = all.0 in
    omega (arith, length-append (zeros (gap origin (alignment_of t) at)) (held t ++ laid held origin (start_of origin at t + size_of t) ts), length-append (held t) (laid held origin (start_of origin at t + size_of t) ts), length-zeros (gap origin (alignment_of t) at), rest, size)

pub laid-append : (held : Thing → List ℕ) (origin at : ℕ) (xs ys : List Thing) → laid held origin at (xs ++ ys) ≡ laid held origin at xs ++ laid held origin (at + extent origin at xs) ys
laid-append held origin at [] ys = let e : at ≡ at + 0 = omega arith in ap (λ (k : ℕ). laid held origin k ys) e
laid-append held origin at (x ∷ xs) ys =
    let next : ℕ = start_of origin at x + size_of x in
    let e : next + extent origin next xs ≡ at + extent origin at (x ∷ xs) = omega arith in
    let rest : laid held origin next (xs ++ ys) ≡ laid held origin next xs ++ laid held origin (at + extent origin at (x ∷ xs)) ys =
    laid-append held origin next xs ys ∙ ap (λ (k : ℕ). laid held origin next xs ++ laid held origin k ys) e in
    ap (λ (tail : List ℕ). zeros (gap origin (alignment_of x) at) ++ (held x ++ tail)) rest
    ∙ sym (ap (λ (tail : List ℕ). zeros (gap origin (alignment_of x) at) ++ tail) (append_assoc (held x) (laid held origin next xs) (laid held origin (at + extent origin at (x ∷ xs)) ys)))
    ∙ sym (append_assoc (zeros (gap origin (alignment_of x) at)) (held x ++ laid held origin next xs) (laid held origin (at + extent origin at (x ∷ xs)) ys))

-- ---- the startup code

abbrev pub NoStartup : List Thing → Type 0
NoStartup ts = AllByRecursion (λ t. is_startup t ≡ false) ts

startup_found : (origin at : ℕ) (xs : List Thing) (words : ℕ) (more : List Stood) → NoStartup xs
    → address_of is_startup (stood origin at (xs ++ Startup words ∷ []) ++ more) ≡ Some (start_of origin (at + extent origin at xs) (Startup words))
startup_found origin at [] words more none = let e : at ≡ at + 0 = omega arith in ap (λ (k : ℕ). Some (start_of origin k (Startup words))) e
startup_found origin at (x ∷ xs) words more none =
    let next : ℕ = start_of origin at x + size_of x in
    let e : next + extent origin next xs ≡ at + extent origin at (x ∷ xs) = omega arith in
    rw (none.0) (startup_found origin next xs words more none.1 ∙ ap (λ (k : ℕ). Some (start_of origin k (Startup words))) e)

-- the startup code is the last thing of the first region
pub record Begins (words : ℕ) (rs : List Planned) : Type 0 where
  pub region : Planned
  pub rest : List Planned
  pub whole : rs ≡ region ∷ rest
  pub before : List Thing
  pub things : region.things ≡ before ++ Startup words ∷ []
  pub none : NoStartup before

areas_have_none : (items : List Item) → NoStartup (map AnArea items)
areas_have_none [] = tt
areas_have_none (i ∷ items) = (refl, areas_have_none items)

veneers_have_none : (vs : List RegionVeneer) → NoStartup (map (λ v. AVeneer v.target v.thumb) vs)
veneers_have_none [] = tt
veneers_have_none (v ∷ vs) = (refl, veneers_have_none vs)

first_begins : (s : Scatter) (c : Contents) (words : ℕ) (r : ScatterRegion) (before load : ℕ) (rest : List Planned) → Begins words (planned (kind.Scatter s) c words 0 r before load ∷ rest)
first_begins s c words r before load rest =
    let areas : List Thing = map AnArea (filter (λ i. not (is_zero_initialised i)) (areas_in c 0)) in
    record {
      region = planned (kind.Scatter s) c words 0 r before load;
      rest = rest;
      whole = refl;
      before = areas ++ veneers_in c 0;
      things = sym (append_assoc areas (veneers_in c 0) (Startup words ∷ []));
      none = all_append (λ t. is_startup t ≡ false) areas (veneers_in c 0) (areas_have_none (filter (λ i. not (is_zero_initialised i)) (areas_in c 0))) (veneers_have_none (filter (λ v. v.region == 0) c.veneers));
    }

pub begins : (s : Scatter) (c : Contents) (words : ℕ) (ls : List ScatterLoad) (a : ℕ) → address_of is_startup (flat_map stood_in (regions_of (loads_from (kind.Scatter s) c words 0 ls))) ≡ Some a
    → Begins words (regions_of (loads_from (kind.Scatter s) c words 0 ls))
begins s c words [] a h = absurd cc
begins s c words (l ∷ ls) a h = go l.regions (begins s c words ls a) h
  where
    go : (regions : List ScatterRegion)
        → (address_of is_startup (flat_map stood_in (regions_of (loads_from (kind.Scatter s) c words 0 ls))) ≡ Some a → Begins words (regions_of (loads_from (kind.Scatter s) c words 0 ls)))
        → address_of is_startup (flat_map stood_in (planned_from (kind.Scatter s) c words 0 regions l.base l.base ++ regions_of (loads_from (kind.Scatter s) c words (0 + length regions) ls))) ≡ Some a
        → Begins words (planned_from (kind.Scatter s) c words 0 regions l.base l.base ++ regions_of (loads_from (kind.Scatter s) c words (0 + length regions) ls))
    go [] later e = later e
    go (r ∷ regions) later e = first_begins s c words r l.base l.base _

-- its address
pub startup_stands : (words : ℕ) (rs : List Planned) (b : Begins words rs)
    → address_of is_startup (flat_map stood_in rs) ≡ Some (start_of b.region.origin (b.region.base + extent b.region.origin b.region.base b.before) (Startup words))
startup_stands words rs b =
    ap (λ (xs : List Planned). address_of is_startup (flat_map stood_in xs)) b.whole
    ∙ ap (λ (ts : List Thing). address_of is_startup ((stood b.region.origin b.region.base ts ++ stood b.region.origin (b.region.base + extent b.region.origin b.region.base b.region.things) b.region.zeros) ++ flat_map stood_in b.rest)) b.things
    ∙ ap (address_of is_startup) (append_assoc (stood b.region.origin b.region.base (b.before ++ Startup words ∷ [])) (stood b.region.origin (b.region.base + extent b.region.origin b.region.base b.region.things) b.region.zeros) (flat_map stood_in b.rest))
    ∙ startup_found b.region.origin b.region.base b.before words (stood b.region.origin (b.region.base + extent b.region.origin b.region.base b.region.things) b.region.zeros ++ flat_map stood_in b.rest) b.none
