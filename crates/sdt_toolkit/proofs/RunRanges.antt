-- The ranges of an image that is placed: its map is valid, and its view lies in them.
use Rattle.std.proofs.Common.{◌≡◌, ℕ, suc, ◌+◌, ◌%◌, ◌^◌, ◌<◌, ◌≤◌, ◌||◌, Bool, true, false, List, [], ◌∷◌, ◌++◌, length, map, refl, ap, ◌∙◌, subst, arith, None}
use Rattle.std.specs.Prelude.{sum_by}
use Rattle.std.specs.List.{list_any, AllByRecursion}
use Rattle.std.proofs.lemmas.List.Sums.{sum_by-append, sum_by-cons}
use Rattle.base_lemmas.proofs.BaseLemmas.{all_back, all_front, or_true, true_or}
use Rattle.boot_code.proofs.ViewLemmas.{covers-true}
use Rattle.arm7_bus.specs.Seats.{has_access}
use Rattle.place_model.specs.Faults.{load_span, shared}
use Rattle.place_model.specs.Laws.{IsLeastShared}
use Rattle.place_model.specs.Plans.{Plan, Planned, PlannedLoad, execution_size, length_of, load_size, regions_of, zero_length_of}
use Rattle.place_model.proofs.ListLemmas.{Pairs}
use Rattle.place_model.proofs.SpanLemmas.{shared_law}
use Rattle.image_model.specs.Views.{is_executed}
use Rattle.link_model.specs.declared.images.LoadRegion.{LoadRegion}
use Rattle.link_model.specs.declared.placing.Region.{Region}
use Rattle.link_place.specs.Placed.{placed_region, placed_regions}
use Rattle.bin_image.specs.Fields.{is_name, lacks}
use Rattle.bin_image.specs.Files.{map_load, map_region}
use Rattle.bin_image.specs.Maps.{AreApart, IsApart, IsLoad, IsRegion}
use Rattle.run_opening.specs.declared.image.Need.{Need}
use Rattle.armlink_core.specs.Sizes.{region_size}
use Rattle.sdt_toolkit.specs.RunImages.{is_needed, region_need}
use Rattle.sdt_toolkit.proofs.RunLoads.{inside}
use Rattle.sdt_toolkit.proofs.RunNames.{one_line}

-- ---- execution ranges

pub record IsFit (r : Planned) : Type 0 where
  pub named : is_name r.name ≡ true
  pub small : execution_size r ≤ 2 ^ 26
  pub room : r.base + execution_size r ≤ 2 ^ 32

pub are_fit : (rs : List Planned) → AllByRecursion (λ r. is_name r.name ≡ true) rs → AllByRecursion (λ r. execution_size r ≤ 2 ^ 26) rs
    → AllByRecursion (λ r. r.base + execution_size r ≤ 2 ^ 32) rs → AllByRecursion IsFit rs
are_fit [] named small room = tt
are_fit (r ∷ rs) named small room = (record { named = named.0; small = small.0; room = room.0 }, are_fit rs named.1 small.1 room.1)

wrapped : (n : ℕ) → n % 2 ^ 32 < 2 ^ 32
wrapped n = omega arith

wrapped_room : (base a b : ℕ) → base + (a + b) ≤ 2 ^ 32 → base % 2 ^ 32 + a + b ≤ 2 ^ 32
wrapped_room base a b h = omega (arith, h)

of_region : (number : ℕ) (r : Planned) → IsFit r → IsRegion (map_region (placed_region number r))
of_region number r f =
    let small = f.small in
    record {
      named = f.named;
      load_fits = wrapped r.load;
      base_fits = wrapped r.base;
      length_fits = omega (arith, small);
      zero_fits = omega (arith, small);
      in_space = wrapped_room r.base (length_of r) (zero_length_of r) f.room;
    }

of_regions : (number : ℕ) (rs : List Planned) (rest : List Region) → AllByRecursion IsFit rs → AllByRecursion IsRegion (map map_region rest)
    → AllByRecursion IsRegion (map map_region (map (placed_region number) rs ++ rest))
of_regions number [] rest fit later = later
of_regions number (r ∷ rs) rest fit later = (of_region number r fit.0, of_regions number rs rest fit.1 later)

pub plan_regions : (number : ℕ) (p : Plan) → AllByRecursion IsFit (regions_of p) → AllByRecursion IsRegion (map map_region (placed_regions number p))
plan_regions number [] fit = tt
plan_regions number (l ∷ p) fit =
    of_regions number l.regions (placed_regions (suc number) p) (all_front IsFit l.regions (regions_of p) fit)
    (plan_regions (suc number) p (all_back IsFit l.regions (regions_of p) fit))

-- ---- an address of one is needed

unwrapped : (base size x : ℕ) → base + size ≤ 2 ^ 32 → (base ≤ x) × (x < base + size) → base % 2 ^ 32 ≡ base
unwrapped base size x room (lo, hi) = omega (arith, room, lo, hi)

region_needed : (x : ℕ) (r : Planned) → IsFit r → is_executed x r ≡ true → has_access (r.base % 2 ^ 32) (length_of r + zero_length_of r) x 1 ≡ true
region_needed x r f h =
    ap (λ (b : ℕ). has_access b (length_of r + zero_length_of r) x 1) (unwrapped r.base (execution_size r) x f.room (covers-true r.base (execution_size r) x h))
    ∙ inside r.base (execution_size r) x h

module _ (x : ℕ) where
  some_needed : (number : ℕ) (rs others : List Planned) (rest : List Region) → AllByRecursion IsFit rs → (list_any (is_executed x) others ≡ true → is_needed (map region_need rest) x ≡ true)
      → list_any (is_executed x) (rs ++ others) ≡ true → is_needed (map region_need (map (placed_region number) rs ++ rest)) x ≡ true
  some_needed number [] others rest fit later h = later h
  some_needed number (r ∷ rs) others rest fit later h = go (is_executed x r) refl h (some_needed number rs others rest fit.1 later)
    where
      go : (b : Bool) → is_executed x r ≡ b → (b || list_any (is_executed x) (rs ++ others)) ≡ true
          → (list_any (is_executed x) (rs ++ others) ≡ true → is_needed (map region_need (map (placed_region number) rs ++ rest)) x ≡ true)
          → is_needed (map region_need (map (placed_region number) (r ∷ rs) ++ rest)) x ≡ true
      go true e k next = true_or (has_access (r.base % 2 ^ 32) (length_of r + zero_length_of r) x 1) (is_needed (map region_need (map (placed_region number) rs ++ rest)) x) (region_needed x r fit.0 e)
      go false e k next = or_true (has_access (r.base % 2 ^ 32) (length_of r + zero_length_of r) x 1) (is_needed (map region_need (map (placed_region number) rs ++ rest)) x) (next k)

  plan_needed : (number : ℕ) (p : Plan) → AllByRecursion IsFit (regions_of p) → list_any (is_executed x) (regions_of p) ≡ true → is_needed (map region_need (placed_regions number p)) x ≡ true
  plan_needed number [] fit h = absurd (let bad : false ≡ true = h in cc)
  plan_needed number (l ∷ p) fit h =
      some_needed number l.regions (regions_of p) (placed_regions (suc number) p) (all_front IsFit l.regions (regions_of p) fit)
      (plan_needed (suc number) p (all_back IsFit l.regions (regions_of p) fit)) h

  needed_behind : (ns ms : List Need) → is_needed ms x ≡ true → is_needed (ns ++ ms) x ≡ true
  needed_behind [] ms h = h
  needed_behind (n ∷ ns) ms h = or_true (has_access n.base n.size x 1) (is_needed (ns ++ ms) x) (needed_behind ns ms h)

  pub executed_needed : (loads : List Need) (p : Plan) → AllByRecursion IsFit (regions_of p) → list_any (is_executed x) (regions_of p) ≡ true → is_needed (loads ++ map region_need (placed_regions 0 p)) x ≡ true
  executed_needed loads p fit h = needed_behind loads (map region_need (placed_regions 0 p)) (plan_needed 0 p fit h)

-- ---- sizes of load ranges

load_within : (number : ℕ) (rs : List Planned) → sum_by length_of rs ≤ sum_by region_size (map (placed_region number) rs)
load_within number [] = omega arith
load_within number (r ∷ rs) =
    omega (arith, sum_by-cons length_of r rs, sum_by-cons region_size (placed_region number r) (map (placed_region number) rs), load_within number rs)

pub loads_small : (number most : ℕ) (p : Plan) → sum_by region_size (placed_regions number p) ≤ most → AllByRecursion (λ l. load_size l ≤ most) p
loads_small number most [] h = tt
loads_small number most (l ∷ p) h =
    let sum = sum_by-append region_size (map (placed_region number) l.regions) (placed_regions (suc number) p) in
    let own = load_within number l.regions in
    (omega (arith, sum, own, h), loads_small (suc number) most p (omega (arith, sum, h)))

-- ---- load ranges

-- the load regions are those of the plan
abbrev pub AreAlike : List LoadRegion → Plan → Type 0
AreAlike [] [] = Unit {0}
AreAlike (l ∷ ls) (q ∷ qs) = (l.base ≡ q.base) × (length l.bytes ≡ load_size q) × AreAlike ls qs
AreAlike _ _ = ⊥

pub alike : (ls : List LoadRegion) (p : Plan) → map (λ l. l.base) ls ≡ map (λ q. q.base) p → map (λ l. length l.bytes) ls ≡ map load_size p → AreAlike ls p
alike [] [] bases sizes = tt
alike [] (q ∷ qs) bases sizes = absurd cc
alike (l ∷ ls) [] bases sizes = absurd cc
alike (l ∷ ls) (q ∷ qs) bases sizes =
    let more_bases : map (λ k. k.base) ls ≡ map (λ m. m.base) qs = cc in
    let more_sizes : map (λ k. length k.bytes) ls ≡ map load_size qs = cc in
    (cc, cc, alike ls qs more_bases more_sizes)

pub record IsFitLoad (l : LoadRegion) : Type 0 where
  pub named : is_name l.name ≡ true
  pub low : l.base < 2 ^ 32

module _ (out : List ℕ) (line : lacks 10 out ≡ true) where
  pub are_loads : (ls : List LoadRegion) (p : Plan) → AreAlike ls p → AllByRecursion IsFitLoad ls → AllByRecursion (λ q. load_size q ≤ 2 ^ 26) p → AllByRecursion (λ q. q.base + load_size q ≤ 2 ^ 32) p
      → AllByRecursion IsLoad (map (map_load out) ls)
  are_loads [] [] same fit small room = tt
  are_loads [] (q ∷ qs) same fit small room = absurd same
  are_loads (l ∷ ls) [] same fit small room = absurd same
  are_loads (l ∷ ls) (q ∷ qs) (base, size, same) fit small room = (
    record {
      named = fit.0.named;
      base_fits = fit.0.low;
      size_fits = omega (arith, size, small.0);
      in_space = omega (arith, base, size, room.0);
      one_line = one_line out l.name line fit.0.named;
    },
    are_loads ls qs same fit.1 small.1 room.1,
  )

module _ (out : List ℕ) where
  one_apart : (l : LoadRegion) (q : PlannedLoad) (ls : List LoadRegion) (p : Plan) → l.base ≡ q.base → length l.bytes ≡ load_size q → AreAlike ls p
      → AllByRecursion (λ m. shared (load_span q) (load_span m) ≡ None) p → AllByRecursion (IsApart (map_load out l)) (map (map_load out) ls)
  one_apart l q [] [] base size same apart = tt
  one_apart l q [] (m ∷ ms) base size same apart = absurd same
  one_apart l q (k ∷ ks) [] base size same apart = absurd same
  one_apart l q (k ∷ ks) (m ∷ ms) base size (own_base, own_size, same) apart = (
    (λ x one other.
        (subst (IsLeastShared (load_span q) (load_span m)) apart.0 (shared_law (load_span q) (load_span m))) x
        (record { from_base = omega (arith, base, one.0); below_end = omega (arith, base, size, one.1) })
        (record { from_base = omega (arith, own_base, other.0); below_end = omega (arith, own_base, own_size, other.1) })),
    one_apart l q ks ms base size same apart.1,
  )

  pub are_apart : (ls : List LoadRegion) (p : Plan) → AreAlike ls p → Pairs (λ q m. shared (load_span q) (load_span m) ≡ None) p → AreApart (map (map_load out) ls)
  are_apart [] [] same apart = tt
  are_apart [] (q ∷ qs) same apart = absurd same
  are_apart (l ∷ ls) [] same apart = absurd same
  are_apart (l ∷ ls) (q ∷ qs) (base, size, same) apart = (one_apart l q ls qs base size same apart.0, are_apart ls qs same apart.1)
