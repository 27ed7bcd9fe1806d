-- What is placed is within 32 bits, and its regions have 2^26 bytes at most.
use Rattle.std.proofs.Common.{◌≡◌, ℕ, suc, ◌+◌, ◌^◌, ◌≤◌, Bool, true, false, nat_lt, if◌then◌else◌, List, [], ◌∷◌, ◌++◌, map, refl, subst, arith, Option, Some, None, Result, Ok}
use Rattle.std.specs.Prelude.{sum_by}
use Rattle.std.specs.List.{AllByRecursion, flat_map}
use Rattle.std.specs.Option.{option_map, option_or}
use Rattle.std.proofs.lemmas.List.Sums.{sum_by-cons, sum_by-append}
use Rattle.base_lemmas.proofs.BaseLemmas.{all_append, all_front, all_back}
use Rattle.sdt_word.specs.declared.ranges.Range32.{Range32}
use Rattle.sdt_fault.specs.declared.refusal.Refusal.{Refusal}
use Rattle.sdt_fault.specs.declared.refusal.Refusal.TheVariants.{TooLarge}
use Rattle.sdt_fault.specs.declared.kinds.Quantity.TheVariants.{ImageBytes}
use Rattle.link_model.specs.declared.placing.PlacedArea.{PlacedArea}
use Rattle.link_model.specs.declared.placing.Placement.{Placement}
use Rattle.place_model.specs.declared.scatter.Kind.{Kind}
use Rattle.place_model.specs.declared.scatter.Kind.TheVariants as kind
use Rattle.place_model.specs.Assignment.{plain_load}
use Rattle.place_model.specs.Faults.{rootless, first_told, Judged, overfull, judged_region, judged_load, judged, as_overlap, as_conflict, overlap, copy_conflict, image_bytes, too_large, aif_too_large, not_writable, place_refusal}
use Rattle.place_model.specs.Things.{Thing, Header, AnArea, AVeneer, Startup, start_of, size_of, extent, Stood, stood}
use Rattle.place_model.specs.Plans.{Contents, Planned, length_of, zero_base_of, execution_size, end_of, load_size, loads_from, Plan, plan_for, plan_of, regions_of, stood_in, table_words}
use Rattle.place_model.proofs.ListLemmas.{none_given}
use Rattle.place_model.proofs.PlanLemmas.{loads_loaded}
use Rattle.place_model.proofs.SpanLemmas.{in_memory, lt-false, or_none}
use Rattle.link_place.specs.Placed.{area_of, areas_of, placed_region, placed_regions, placement_of, placed, told}
use Rattle.link_apply.specs.Applied.{IsRegionWithin, IsWithin}
use Rattle.armlink_core.specs.Sizes.{region_size}

-- ---- no refusal

pub record IsClean (k : Kind) (p : Plan) : Type 0 where
  pub fits : AllByRecursion (λ j. overfull j ≡ None) (judged k p)
  pub small : image_bytes p ≤ 2 ^ 26

small_image : (p : Plan) → too_large p ≡ None → image_bytes p ≤ 2 ^ 26
small_image p h = go (nat_lt (2 ^ 26) (image_bytes p)) refl h
  where
    go : (b : Bool) → nat_lt (2 ^ 26) (image_bytes p) ≡ b → (if b then Some (TooLarge ImageBytes (2 ^ 26)) else None) ≡ None → image_bytes p ≤ 2 ^ 26
    go true e n = absurd (cc)
    go false e n = lt-false (2 ^ 26) (image_bytes p) e

is_clean : (k : Kind) (ram : Option (List Range32)) (p : Plan) → place_refusal k ram p ≡ None → IsClean k p
is_clean k ram p h =
    let behind_size : Option Refusal = option_or (aif_too_large k p) (not_writable ram p) in
    let behind_conflict : Option Refusal = option_or (too_large p) behind_size in
    let behind_overlap : Option Refusal = option_or (option_map as_conflict (copy_conflict p)) behind_conflict in
    let behind_overfull : Option Refusal = option_or (option_map as_overlap (overlap p)) behind_overlap in
    let a = or_none (rootless (regions_of p)) (option_or (first_told overfull (judged k p)) behind_overfull) h in
    let b = or_none (first_told overfull (judged k p)) behind_overfull a.1 in
    let c = or_none (option_map as_overlap (overlap p)) behind_overlap b.1 in
    let d = or_none (option_map as_conflict (copy_conflict p)) behind_conflict c.1 in
    let e = or_none (too_large p) behind_size d.1 in
    record { fits = none_given overfull (judged k p) b.0; small = small_image p e.0 }

-- ---- execution ranges

abbrev pub EndsWithin : Planned → Type 0
EndsWithin r = end_of r ≤ 2 ^ 32

region_ends : (r : Planned) → overfull (judged_region r) ≡ None → EndsWithin r
region_ends r h = let room = in_memory (judged_region r) h in omega (arith, room)

regions_end : (rs : List Planned) → AllByRecursion (λ j. overfull j ≡ None) (map judged_region rs) → AllByRecursion EndsWithin rs
regions_end [] all = tt
regions_end (r ∷ rs) all = (region_ends r all.0, regions_end rs all.1)

plan_ends : (k : Kind) (p : Plan) → AllByRecursion (λ j. overfull j ≡ None) (judged k p) → AllByRecursion EndsWithin (regions_of p)
plan_ends k [] all = tt
plan_ends k (l ∷ p) all =
    let own = judged_load k l ++ map judged_region l.regions in
    all_append EndsWithin l.regions (regions_of p)
    (regions_end l.regions (all_back (λ j. overfull j ≡ None) (judged_load k l) (map judged_region l.regions) (all_front (λ j. overfull j ≡ None) own (judged k p) all)))
    (plan_ends k p (all_back (λ j. overfull j ≡ None) own (judged k p) all))

-- ---- load ranges

abbrev pub IsLoadedWithin : Planned → Type 0
IsLoadedWithin r = r.load + length_of r ≤ 2 ^ 32

loads_end : (s : _) (p : Plan) → AllByRecursion (λ j. overfull j ≡ None) (judged (kind.Scatter s) p) → AllByRecursion (λ l. l.base + load_size l ≤ 2 ^ 32) p
loads_end s [] all = tt
loads_end s (l ∷ p) all =
    let own = judged_load (kind.Scatter s) l ++ map judged_region l.regions in
    let rest = all_back (λ j. overfull j ≡ None) own (judged (kind.Scatter s) p) all in
    let load : Judged = record { name = l.name; base = l.base; size = load_size l; maximum = l.maximum } in
    (in_memory load all.0, loads_end s p rest)

-- without a description no region is loaded above where it runs
plain_loaded : (k : Kind) (c : Contents) (words base : ℕ) → AllByRecursion EndsWithin (regions_of (loads_from k c words 0 (plain_load base ∷ [])))
    → AllByRecursion IsLoadedWithin (regions_of (loads_from k c words 0 (plain_load base ∷ [])))
plain_loaded k c words base (one, (two, (three, rest))) = (omega (arith, one), (omega (arith, one, two), (omega (arith, one, two, three), tt)))

plan_loaded : (k : Kind) (c : Contents) (words : ℕ) → AllByRecursion (λ j. overfull j ≡ None) (judged k (plan_for k c words)) → AllByRecursion IsLoadedWithin (regions_of (plan_for k c words))
plan_loaded (kind.Scatter s) c words all = loads_loaded (kind.Scatter s) c words 0 s.loads (2 ^ 32) (loads_end s (plan_for (kind.Scatter s) c words) all)
plan_loaded (kind.Plain base) c words all = plain_loaded (kind.Plain base) c words base (plan_ends (kind.Plain base) (plan_for (kind.Plain base) c words) all)
plan_loaded (kind.Aif base moves) c words all = plain_loaded (kind.Aif base moves) c words base (plan_ends (kind.Aif base moves) (plan_for (kind.Aif base moves) c words) all)

-- ---- regions

regions_within : (number : ℕ) (rs : List Planned) → AllByRecursion EndsWithin rs → AllByRecursion IsLoadedWithin rs → AllByRecursion IsRegionWithin (map (placed_region number) rs)
regions_within number [] ends loaded = tt
regions_within number (r ∷ rs) ends loaded =
    let runs = ends.0 in
    (record { loaded = loaded.0; runs = omega (arith, runs) }, regions_within number rs ends.1 loaded.1)

all_within : (number : ℕ) (p : Plan) → AllByRecursion EndsWithin (regions_of p) → AllByRecursion IsLoadedWithin (regions_of p) → AllByRecursion IsRegionWithin (placed_regions number p)
all_within number [] ends loaded = tt
all_within number (l ∷ p) ends loaded =
    all_append IsRegionWithin (map (placed_region number) l.regions) (placed_regions (suc number) p)
    (regions_within number l.regions (all_front EndsWithin l.regions (regions_of p) ends) (all_front IsLoadedWithin l.regions (regions_of p) loaded))
    (all_within (suc number) p (all_back EndsWithin l.regions (regions_of p) ends) (all_back IsLoadedWithin l.regions (regions_of p) loaded))

-- ---- areas

abbrev StandsWithin : Stood → Type 0
StandsWithin s = s.address ≤ 2 ^ 32

stood_low : (origin at : ℕ) (ts : List Thing) → at + extent origin at ts ≤ 2 ^ 32 → AllByRecursion StandsWithin (stood origin at ts)
stood_low origin at [] h = tt
stood_low origin at (t ∷ ts) h = (omega (arith, h), stood_low origin (start_of origin at t + size_of t) ts (omega (arith, h)))

abbrev IsLow : PlacedArea → Type 0
IsLow a = a.address ≤ 2 ^ 32

area_low : (region : ℕ) (t : Thing) (address : ℕ) → address ≤ 2 ^ 32 → AllByRecursion IsLow (area_of region t address)
area_low region Header address h = tt
area_low region (AnArea i) address h = (h, tt)
area_low region (AVeneer target thumb) address h = tt
area_low region (Startup words) address h = tt

areas_low : (region : ℕ) (ss : List Stood) → AllByRecursion StandsWithin ss → AllByRecursion IsLow (flat_map (λ s. area_of region s.thing s.address) ss)
areas_low region [] all = tt
areas_low region (s ∷ ss) all =
    all_append IsLow (area_of region s.thing s.address) (flat_map (λ t. area_of region t.thing t.address) ss) (area_low region s.thing s.address all.0) (areas_low region ss all.1)

region_low : (r : Planned) → EndsWithin r → AllByRecursion IsLow (areas_of r)
region_low r h =
    areas_low r.number (stood_in r)
    (all_append StandsWithin (stood r.origin r.base r.things) (stood r.origin (zero_base_of r) r.zeros) (stood_low r.origin r.base r.things (omega (arith, h))) (stood_low r.origin (zero_base_of r) r.zeros (omega (arith, h))))

all_low : (rs : List Planned) → AllByRecursion EndsWithin rs → AllByRecursion IsLow (flat_map areas_of rs)
all_low [] all = tt
all_low (r ∷ rs) all = all_append IsLow (areas_of r) (flat_map areas_of rs) (region_low r all.0) (all_low rs all.1)

-- ---- sizes

sizes_of_load : (number : ℕ) (rs : List Planned) → sum_by region_size (map (placed_region number) rs) ≡ sum_by execution_size rs
sizes_of_load number [] = refl
sizes_of_load number (r ∷ rs) =
    omega (arith, sum_by-cons region_size (placed_region number r) (map (placed_region number) rs), sum_by-cons execution_size r rs, sizes_of_load number rs)

sizes_same : (number : ℕ) (p : Plan) → sum_by region_size (placed_regions number p) ≡ sum_by execution_size (regions_of p)
sizes_same number [] = refl
sizes_same number (l ∷ p) =
    omega (
      arith,
      sum_by-append region_size (map (placed_region number) l.regions) (placed_regions (suc number) p),
      sum_by-append execution_size l.regions (regions_of p),
      sizes_of_load number l.regions,
      sizes_same (suc number) p,
    )

-- ---- the whole

abbrev made : Placement → Result Placement Refusal
made p = Ok p

same_placement : (p q : Placement) → made p ≡ made q → p ≡ q
same_placement p q h = cc

clean : (k : Kind) (ram : Option (List Range32)) (c : Contents) (o : Option Refusal) (p : Placement) → place_refusal k ram (plan_of k c) ≡ o → told o (plan_of k c) ≡ Ok p
    → IsClean k (plan_of k c) × (placement_of (plan_of k c) ≡ p)
clean k ram c None p e h = (is_clean k ram (plan_of k c) e, same_placement (placement_of (plan_of k c)) p h)
clean k ram c (Some r) p e h = absurd (cc)

pub is_within : (k : Kind) (ram : Option (List Range32)) (c : Contents) (p : Placement) → placed k ram c ≡ Ok p → IsWithin p
is_within k ram c p h =
    let (none, is) = clean k ram c (place_refusal k ram (plan_of k c)) p refl h in
    let ends = plan_ends k (plan_of k c) none.fits in
    let it : IsWithin (placement_of (plan_of k c)) = record {
      areas = all_low (regions_of (plan_of k c)) ends;
      regions = all_within 0 (plan_of k c) ends (plan_loaded k c (table_words k c) none.fits);
    } in
    subst IsWithin is it

pub is_small : (k : Kind) (ram : Option (List Range32)) (c : Contents) (p : Placement) → placed k ram c ≡ Ok p → sum_by region_size p.regions ≤ 2 ^ 26
is_small k ram c p h =
    let (none, is) = clean k ram c (place_refusal k ram (plan_of k c)) p refl h in
    let few = none.small in
    let sizes = sizes_same 0 (plan_of k c) in
    let it : sum_by region_size (placement_of (plan_of k c)).regions ≤ 2 ^ 26 = omega (arith, few, sizes) in
    subst (λ (q : Placement). sum_by region_size q.regions ≤ 2 ^ 26) is it
