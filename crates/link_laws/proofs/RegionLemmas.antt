-- The regions of a plan: what stands in them, and where.
use Rattle.std.proofs.Common.{◌≡◌, ◌⊎◌, inl, inr, ℕ, zero, suc, ◌+◌, ◌-◌, ◌%◌, ◌<◌, ◌≤◌, Bool, true, false, not, cond, ◌==◌, List, [], ◌∷◌, ◌++◌, length, length-append, map, refl, sym, ap, subst, arith}
use Rattle.std.specs.List.{filter, flat_map, AllByRecursion}
use Rattle.std.proofs.lemmas.Bool.{cases_lt}
use Rattle.base_lemmas.proofs.BaseLemmas.{all_append}
use Rattle.patch_model.specs.Fields.{Home}
use Rattle.link_model.specs.Veneers.{IsIn}
use Rattle.place_model.specs.declared.scatter.Kind.{Kind}
use Rattle.place_model.specs.declared.scatter.Kind.TheVariants as kind
use Rattle.place_model.specs.declared.scatter.ScatterLoad.{ScatterLoad}
use Rattle.place_model.specs.declared.scatter.ScatterRegion.{ScatterRegion}
use Rattle.place_model.specs.Assignment.{description, described_regions}
use Rattle.place_model.specs.Items.{Item, is_zero_initialised}
use Rattle.place_model.specs.Things.{Thing, Header, AnArea, AVeneer, Startup, alignment_of, size_of, start_of, extent, Stood, stood}
use Rattle.place_model.specs.Plans.{Contents, areas_in, veneers_in, header_in, startup_in, origin_of, Planned, length_of, end_of, planned, planned_from, loads_from, regions_of, plan_for}
use Rattle.place_model.proofs.GapLemmas.{IsWhole, gap-whole}
use Rattle.place_model.proofs.ListLemmas.{all_map, all_indexed}
use Rattle.link_laws.proofs.ListLemmas.{in_later, in_front, in_back, in_map, in_filter}

-- ---- what is in a region

-- the region is one of a plan's
pub record IsShaped (k : Kind) (c : Contents) (words : ℕ) (r : Planned) : Type 0 where
  pub origin : r.origin ≡ origin_of k
  pub things : r.things
      ≡ header_in k r.number ++ (map AnArea (filter (λ i. not (is_zero_initialised i)) (areas_in c r.number)) ++ (veneers_in c r.number ++ startup_in k r.number words))
  pub zeros : r.zeros ≡ map AnArea (filter is_zero_initialised (areas_in c r.number))

from_shaped : (k : Kind) (c : Contents) (words n : ℕ) (rs : List ScatterRegion) (before load : ℕ) → AllByRecursion (IsShaped k c words) (planned_from k c words n rs before load)
from_shaped k c words n [] before load = tt
from_shaped k c words n (r ∷ rs) before load =
    let p : Planned = planned k c words n r before load in
    (record { origin = refl; things = refl; zeros = refl }, from_shaped k c words (suc n) rs (end_of p) (load + length_of p))

loads_shaped : (k : Kind) (c : Contents) (words n : ℕ) (ls : List ScatterLoad) → AllByRecursion (IsShaped k c words) (regions_of (loads_from k c words n ls))
loads_shaped k c words n [] = tt
loads_shaped k c words n (l ∷ ls) =
    all_append (IsShaped k c words) (planned_from k c words n l.regions l.base l.base) (regions_of (loads_from k c words (n + length l.regions) ls))
    (from_shaped k c words n l.regions l.base l.base) (loads_shaped k c words (n + length l.regions) ls)

pub all_shaped : (k : Kind) (c : Contents) (words : ℕ) → AllByRecursion (IsShaped k c words) (regions_of (plan_for k c words))
all_shaped k c words = loads_shaped k c words 0 (description k)

-- a region of each number that the description has
pub record HasNumber (rs : List Planned) (n : ℕ) : Type 0 where
  pub region : Planned
  pub there : IsIn rs region
  pub number : region.number ≡ n

from_numbered : (k : Kind) (c : Contents) (words n : ℕ) (rs : List ScatterRegion) (before load j : ℕ) → j < length rs → (m : ℕ) → m ≡ n + j
    → HasNumber (planned_from k c words n rs before load) m
from_numbered k c words n [] before load j lt m e = absurd (omega arith)
from_numbered k c words n (r ∷ rs) before load zero lt m e = record { region = planned k c words n r before load; there = (0, refl); number = omega (arith, e) }
from_numbered k c words n (r ∷ rs) before load (suc j) lt m e =
    let p : Planned = planned k c words n r before load in
    let rest = from_numbered k c words (suc n) rs (end_of p) (load + length_of p) j (omega arith) m (omega (arith, e)) in
    record { region = rest.region; there = in_later p (planned_from k c words (suc n) rs (end_of p) (load + length_of p)) rest.region rest.there; number = rest.number }

loads_numbered : (k : Kind) (c : Contents) (words n : ℕ) (ls : List ScatterLoad) (j : ℕ) → j < length (flat_map (λ l. l.regions) ls) → (m : ℕ) → m ≡ n + j
    → HasNumber (regions_of (loads_from k c words n ls)) m
loads_numbered k c words n [] j lt m e = absurd (omega arith)
loads_numbered k c words n (l ∷ ls) j lt m e = go (cases_lt j (length l.regions)) (loads_numbered k c words (n + length l.regions) ls (j - length l.regions))
  where
    go : (j < length l.regions) ⊎ (length l.regions ≤ j)
        → (j - length l.regions < length (flat_map (λ q. q.regions) ls) → (m : ℕ) → m ≡ n + length l.regions + (j - length l.regions) → HasNumber (regions_of (loads_from k c words (n + length l.regions) ls)) m)
        → HasNumber (planned_from k c words n l.regions l.base l.base ++ regions_of (loads_from k c words (n + length l.regions) ls)) m
    go (inl h) rest =
        let here = from_numbered k c words n l.regions l.base l.base j h m e in
        record {
          region = here.region;
          there = in_front (planned_from k c words n l.regions l.base l.base) (regions_of (loads_from k c words (n + length l.regions) ls)) here.region here.there;
          number = here.number;
        }
    go (inr h) rest =
        let later = rest (omega (arith, lt, h, length-append l.regions (flat_map (λ q. q.regions) ls))) m (omega (arith, e, h)) in
        record {
          region = later.region;
          there = in_back (planned_from k c words n l.regions l.base l.base) (regions_of (loads_from k c words (n + length l.regions) ls)) later.region later.there;
          number = later.number;
        }

pub numbered : (k : Kind) (c : Contents) (words n : ℕ) → n < length (described_regions k) → HasNumber (regions_of (plan_for k c words)) n
numbered k c words n lt = loads_numbered k c words 0 (description k) n lt n (omega arith)

-- ---- what holds of all things of a region

pub all_areas : (P : Thing → Type 0) (test : Item → Bool) (items : List Item) → AllByRecursion (λ i. test i ≡ true → P (AnArea i)) items → AllByRecursion P (map AnArea (filter test items))
all_areas P test [] h = tt
all_areas P test (i ∷ items) h = go (test i) refl (all_areas P test items h.1)
  where
    go : (b : Bool) → test i ≡ b → AllByRecursion P (map AnArea (filter test items)) → AllByRecursion P (map AnArea (cond b (i ∷ filter test items) (filter test items)))
    go true e rest = (h.0 e, rest)
    go false e rest = rest

pub things_all : (P : Thing → Type 0) (k : Kind) (c : Contents) (words : ℕ) (r : Planned) → IsShaped k c words r → AllByRecursion P (header_in k r.number)
    → AllByRecursion P (startup_in k r.number words) → ((t : Home) (b : Bool) → P (AVeneer t b))
    → AllByRecursion (λ i. not (is_zero_initialised i) ≡ true → P (AnArea i)) (areas_in c r.number) → AllByRecursion P r.things
things_all P k c words r shape header startup veneer areas =
    let own : List Thing = map AnArea (filter (λ i. not (is_zero_initialised i)) (areas_in c r.number)) in
    subst (AllByRecursion P) (sym shape.things)
    (all_append P (header_in k r.number) (own ++ (veneers_in c r.number ++ startup_in k r.number words)) header
    (all_append P own (veneers_in c r.number ++ startup_in k r.number words) (all_areas P (λ i. not (is_zero_initialised i)) (areas_in c r.number) areas)
    (all_append P (veneers_in c r.number) (startup_in k r.number words)
    (all_map P (λ v. AVeneer v.target v.thumb) (filter (λ v. v.region == r.number) c.veneers) (all_indexed (λ v. P (AVeneer v.target v.thumb)) (filter (λ v. v.region == r.number) c.veneers) (λ i v h. veneer v.target v.thumb)))
    startup)))

-- what stands at the begin and at the end of the first region
pub header_all : (P : Thing → Type 0) (k : Kind) (n : ℕ) → P Header → AllByRecursion P (header_in k n)
header_all P (kind.Scatter s) n h = tt
header_all P (kind.Plain base) n h = tt
header_all P (kind.Aif base relocatable) zero h = (h, tt)
header_all P (kind.Aif base relocatable) (suc n) h = tt

pub startup_all : (P : Thing → Type 0) (k : Kind) (n words : ℕ) → P (Startup words) → AllByRecursion P (startup_in k n words)
startup_all P (kind.Scatter s) zero words h = (h, tt)
startup_all P (kind.Scatter s) (suc n) words h = tt
startup_all P (kind.Plain base) n words h = tt
startup_all P (kind.Aif base relocatable) n words h = tt

pub zeros_all : (P : Thing → Type 0) (k : Kind) (c : Contents) (words : ℕ) (r : Planned) → IsShaped k c words r
    → AllByRecursion (λ i. is_zero_initialised i ≡ true → P (AnArea i)) (areas_in c r.number) → AllByRecursion P r.zeros
zeros_all P k c words r shape areas = subst (AllByRecursion P) (sym shape.zeros) (all_areas P is_zero_initialised (areas_in c r.number) areas)

-- an area of its list stands in one of the two parts
pub area_in : (k : Kind) (c : Contents) (words : ℕ) (r : Planned) → IsShaped k c words r → (i : Item) → IsIn (areas_in c r.number) i → IsIn r.things (AnArea i) ⊎ IsIn r.zeros (AnArea i)
area_in k c words r shape i there = go (is_zero_initialised i) refl
  where
    go : (b : Bool) → is_zero_initialised i ≡ b → IsIn r.things (AnArea i) ⊎ IsIn r.zeros (AnArea i)
    go true e =
        let items : List Item = areas_in c r.number in
        inr (subst (λ (ts : List Thing). IsIn ts (AnArea i)) (sym shape.zeros) (in_map AnArea (filter is_zero_initialised items) i (in_filter is_zero_initialised items i e there)))
    go false e =
        let items : List Item = areas_in c r.number in
        let loaded : Item → Bool = λ j. not (is_zero_initialised j) in
        let own : List Thing = map AnArea (filter loaded items) in
        let here : IsIn own (AnArea i) = in_map AnArea (filter loaded items) i (in_filter loaded items i (ap not e) there) in
        let rest : List Thing = veneers_in c r.number ++ startup_in k r.number words in
        inl (subst (λ (ts : List Thing). IsIn ts (AnArea i)) (sym shape.things) (in_back (header_in k r.number) (own ++ rest) (AnArea i) (in_front own rest (AnArea i) here)))

-- ---- where it stands

-- a thing stands between two addresses
pub record IsWithin (P : Thing → Type 0) (low high : ℕ) (s : Stood) : Type 0 where
  pub holds : P s.thing
  pub from : low ≤ s.address
  pub below : s.address + size_of s.thing ≤ high

pub stood_within : (P : Thing → Type 0) (origin at : ℕ) (ts : List Thing) (low high : ℕ) → low ≤ at → at + extent origin at ts ≤ high → AllByRecursion P ts
    → AllByRecursion (IsWithin P low high) (stood origin at ts)
stood_within P origin at [] low high h end all = tt
stood_within P origin at (t ∷ ts) low high h end all = (
  record { holds = all.0; from = omega (arith, h); below = omega (arith, end) },
  stood_within P origin (start_of origin at t + size_of t) ts low high (omega (arith, h)) (omega (arith, end)) all.1,
)

pub stood_whole : (origin at : ℕ) (ts : List Thing) → origin % 4 ≡ 0 → at % 4 ≡ 0 → AllByRecursion IsWhole ts → AllByRecursion (λ s. s.address % 4 ≡ 0) (stood origin at ts)
stood_whole origin at [] ho ha all = tt
stood_whole origin at (t ∷ ts) ho ha (first, all) =
    let aligned = gap-whole origin (alignment_of t) at first.positive first.alignment ho ha in
    let whole = first.size in
    (omega arith, stood_whole origin (start_of origin at t + size_of t) ts ho (omega arith) all)

pub stood_in_place : (origin at : ℕ) (ts : List Thing) (t : Thing) → IsIn ts t → (s : Stood) × IsIn (stood origin at ts) s × (s.thing ≡ t)
stood_in_place origin at [] t h = absurd cc
stood_in_place origin at (x ∷ ts) t (zero, e) = let is : x ≡ t = cc in (record { thing = x; address = start_of origin at x }, (0, refl), is)
stood_in_place origin at (x ∷ ts) t (suc i, e) =
    let (s, there, is) = stood_in_place origin (start_of origin at x + size_of x) ts t (i, e) in
    (s, in_later (record { thing = x; address = start_of origin at x }) (stood origin (start_of origin at x + size_of x) ts) s there, is)

pub things_of_stood : (P : Thing → Type 0) (origin at : ℕ) (ts : List Thing) → AllByRecursion (λ s. P s.thing) (stood origin at ts) → AllByRecursion P ts
things_of_stood P origin at [] all = tt
things_of_stood P origin at (t ∷ ts) all = (all.0, things_of_stood P origin (start_of origin at t + size_of t) ts all.1)
