-- The regions of a plan: how many there are, that all of it is whole words, and the least table.
use Rattle.std.proofs.Common.{◌≡◌, ℕ, zero, suc, ◌+◌, ◌*◌, ◌%◌, ◌<◌, ◌≤◌, ◌⊎◌, inl, inr, Bool, true, false, not, ◌==◌, if◌then◌else◌, List, [], ◌∷◌, ◌++◌, length, length-append, map, refl, sym, ap, ◌∙◌, arith, le-leb}
use Rattle.std.specs.Prelude.{sum_by}
use Rattle.std.specs.List.{filter, flat_map, AllByRecursion}
use Rattle.std.proofs.lemmas.Bool.{cases_lt}
use Rattle.std.proofs.lemmas.List.{length-map}
use Rattle.std.proofs.lemmas.List.Sums.{sum_by-cons}
use Rattle.base_lemmas.proofs.BaseLemmas.{all_append, all_front, all_back}
use Rattle.place_model.specs.declared.scatter.Kind.{Kind}
use Rattle.place_model.specs.declared.scatter.Kind.TheVariants as kind
use Rattle.place_model.specs.declared.scatter.ScatterBase.{ScatterBase}
use Rattle.place_model.specs.declared.scatter.ScatterBase.TheVariants.{At, Plus}
use Rattle.place_model.specs.declared.scatter.ScatterLoad.{ScatterLoad}
use Rattle.place_model.specs.declared.scatter.ScatterRegion.{ScatterRegion}
use Rattle.place_model.specs.Items.{Item, is_zero_initialised}
use Rattle.place_model.specs.Assignment.{description, described_regions}
use Rattle.place_model.specs.Things.{AnArea, AVeneer}
use Rattle.place_model.specs.Plans.{Contents, areas_in, veneers_in, header_in, startup_in, origin_of, Planned, length_of, zero_base_of, end_of, base_behind, planned, planned_from, load_size, loads_from, plan_for, regions_of, is_copied, is_cleared, copy_row, zero_row, copies_of, parts_of, suffices, first_from}
use Rattle.place_model.specs.Laws.{IsWholeItem, IsWholeBase, IsWholeRegion, WholeLaw, TableLaw}
use Rattle.place_model.proofs.ListLemmas.{all_map, all_filter, all_indexed, all_of_get, length_filter}
use Rattle.place_model.proofs.GapLemmas.{IsWhole, whole_area, whole_header, whole_veneer, whole_startup, extent-whole}

-- ---- the first number that passes

first_passes : (passes : ℕ → Bool) (n more : ℕ) → passes (n + more) ≡ true → passes (first_from passes n more) ≡ true
first_passes passes n zero h = let e : n + 0 ≡ n = omega arith in sym (ap passes e) ∙ h
first_passes passes n (suc more) h = let shift : suc n + more ≡ n + suc more = omega arith in go (passes n) refl (first_passes passes (suc n) more (ap passes shift ∙ h))
  where
    go : (b : Bool) → passes n ≡ b → passes (first_from passes (suc n) more) ≡ true → passes (if b then n else first_from passes (suc n) more) ≡ true
    go true e rest = e
    go false e rest = rest

first_least : (passes : ℕ → Bool) (n more k : ℕ) → n ≤ k → k < first_from passes n more → passes k ≡ false
first_least passes n zero k low high = absurd (omega arith)
first_least passes n (suc more) k low high = go (passes n) refl high (cases_lt n k) (first_least passes (suc n) more k)
  where
    go : (b : Bool) → passes n ≡ b → k < (if b then n else first_from passes (suc n) more) → (n < k) ⊎ (k ≤ n)
        → (suc n ≤ k → k < first_from passes (suc n) more → passes k ≡ false) → passes k ≡ false
    go true e h c rest = absurd (omega arith)
    go false e h (inl lt) rest = rest (omega arith) h
    go false e h (inr le) rest = let same : k ≡ n = omega arith in ap passes same ∙ e

-- ---- how many regions there are

planned_count : (k : Kind) (c : Contents) (words region : ℕ) (rs : List ScatterRegion) (before load : ℕ) → length (planned_from k c words region rs before load) ≡ length rs
planned_count k c words region [] before load = refl
planned_count k c words region (r ∷ rs) before load =
    let p : Planned = planned k c words region r before load in
    let rest = planned_count k c words (suc region) rs (end_of p) (load + length_of p) in omega (arith, rest)

loads_count : (k : Kind) (c : Contents) (words region : ℕ) (ls : List ScatterLoad) → length (regions_of (loads_from k c words region ls)) ≡ length (flat_map (λ l. l.regions) ls)
loads_count k c words region [] = refl
loads_count k c words region (l ∷ ls) =
    let first = planned_count k c words region l.regions l.base l.base in
    let rest = loads_count k c words (region + length l.regions) ls in
    let both = length-append (planned_from k c words region l.regions l.base l.base) (regions_of (loads_from k c words (region + length l.regions) ls)) in
    let all = length-append l.regions (flat_map (λ m. m.regions) ls) in
    omega (arith, first, rest, both, all)

rows_count : (rs : List Planned) → 3 * length (map copy_row (filter is_copied rs)) + 2 * length (map zero_row (filter is_cleared rs)) ≤ 5 * length rs
rows_count rs =
    omega (arith, length-map (filter is_copied rs) copy_row, length-map (filter is_cleared rs) zero_row, length_filter is_copied rs, length_filter is_cleared rs)

enough_words : (k : Kind) (c : Contents) (words : ℕ) → 5 * length (described_regions k) + 6 ≤ words → suffices k c words ≡ true
enough_words k c words h =
    let rows = rows_count (regions_of (plan_for k c words)) in
    let count = loads_count k c words 0 (description k) in
    le-leb (3 * length (copies_of (plan_for k c words)) + 2 * length (parts_of (plan_for k c words)) + 6) words (omega (arith, rows, count))

pub table_law : TableLaw
table_law s c = record {
  enough = first_passes (suffices (kind.Scatter s) c) 0 (5 * length (described_regions (kind.Scatter s)) + 6) (enough_words (kind.Scatter s) c (0 + (5 * length (described_regions (kind.Scatter s)) + 6)) (omega arith));
  least = λ fewer lt. first_least (suffices (kind.Scatter s) c) 0 (5 * length (described_regions (kind.Scatter s)) + 6) fewer (omega arith) lt;
}

-- ---- whole words

header_whole : (k : Kind) (region : ℕ) → AllByRecursion IsWhole (header_in k region)
header_whole (kind.Scatter s) region = tt
header_whole (kind.Plain base) region = tt
header_whole (kind.Aif base relocatable) zero = (whole_header, tt)
header_whole (kind.Aif base relocatable) (suc region) = tt

startup_whole : (k : Kind) (region words : ℕ) → AllByRecursion IsWhole (startup_in k region words)
startup_whole (kind.Scatter s) zero words = (whole_startup words, tt)
startup_whole (kind.Scatter s) (suc region) words = tt
startup_whole (kind.Plain base) region words = tt
startup_whole (kind.Aif base relocatable) region words = tt

areas_whole : (c : Contents) (region : ℕ) (test : Item → Bool) → AllByRecursion (λ areas. AllByRecursion IsWholeItem areas) c.areas → AllByRecursion IsWhole (map AnArea (filter test (areas_in c region)))
areas_whole c region test all =
    all_map IsWhole AnArea (filter test (areas_in c region)) (weaker (filter test (areas_in c region)) (all_filter IsWholeItem test (areas_in c region) (all_of_get (λ areas. AllByRecursion IsWholeItem areas) c.areas region [] tt all)))
  where
    weaker : (items : List Item) → AllByRecursion IsWholeItem items → AllByRecursion (λ i. IsWhole (AnArea i)) items
    weaker [] h = tt
    weaker (i ∷ items) h = (whole_area i h.0, weaker items h.1)

veneers_whole : (c : Contents) (region : ℕ) → AllByRecursion IsWhole (veneers_in c region)
veneers_whole c region = all_map IsWhole (λ v. AVeneer v.target v.thumb) (filter (λ v. v.region == region) c.veneers) (all_indexed _ (filter (λ v. v.region == region) c.veneers) (λ i v h. whole_veneer v.target v.thumb))

behind_whole : (b : ScatterBase) (before : ℕ) → IsWholeBase b → before % 4 ≡ 0 → base_behind b before % 4 ≡ 0
behind_whole (At address) before h w = h
behind_whole (Plus offset) before h w = omega arith

module _ (k : Kind) (c : Contents) (words : ℕ) (ho : origin_of k % 4 ≡ 0) (items : AllByRecursion (λ areas. AllByRecursion IsWholeItem areas) c.areas) where
  planned_whole : (region : ℕ) (r : ScatterRegion) (before load : ℕ) → IsWholeBase r.base → before % 4 ≡ 0 → load % 4 ≡ 0 → IsWholeRegion (planned k c words region r before load)
  planned_whole region r before load hb hw hl =
      let base = behind_whole r.base before hb hw in
      let p : Planned = planned k c words region r before load in
      let things =
      all_append IsWhole (header_in k region) (map AnArea (filter (λ i. not (is_zero_initialised i)) (areas_in c region)) ++ (veneers_in c region ++ startup_in k region words)) (header_whole k region)
      (all_append IsWhole (map AnArea (filter (λ i. not (is_zero_initialised i)) (areas_in c region))) (veneers_in c region ++ startup_in k region words) (areas_whole c region (λ i. not (is_zero_initialised i)) items)
      (all_append IsWhole (veneers_in c region) (startup_in k region words) (veneers_whole c region) (startup_whole k region words))) in
      let loaded = extent-whole (origin_of k) p.base p.things ho base things in
      record {
        load = hl;
        base = base;
        loaded = loaded;
        cleared = extent-whole (origin_of k) (zero_base_of p) p.zeros ho (omega (arith, base, loaded)) (areas_whole c region is_zero_initialised items);
      }

  from_whole : (region : ℕ) (rs : List ScatterRegion) (before load : ℕ) → AllByRecursion (λ r. IsWholeBase r.base) rs → before % 4 ≡ 0 → load % 4 ≡ 0
      → AllByRecursion IsWholeRegion (planned_from k c words region rs before load)
  from_whole region [] before load bases hw hl = tt
  from_whole region (r ∷ rs) before load bases hw hl =
      let p : Planned = planned k c words region r before load in
      let first : IsWholeRegion p = planned_whole region r before load bases.0 hw hl in
      let b = first.base in let l = first.loaded in let z = first.cleared in
      (first, from_whole (suc region) rs (end_of p) (load + length_of p) bases.1 (omega (arith, b, l, z)) (omega (arith, l)))

  loads_whole : (region : ℕ) (ls : List ScatterLoad) → AllByRecursion (λ l. l.base % 4 ≡ 0) ls → AllByRecursion (λ r. IsWholeBase r.base) (flat_map (λ l. l.regions) ls)
      → AllByRecursion IsWholeRegion (regions_of (loads_from k c words region ls))
  loads_whole region [] bases regions = tt
  loads_whole region (l ∷ ls) bases regions =
      all_append IsWholeRegion (planned_from k c words region l.regions l.base l.base) (regions_of (loads_from k c words (region + length l.regions) ls))
      (from_whole region l.regions l.base l.base (all_front (λ r. IsWholeBase r.base) l.regions (flat_map (λ m. m.regions) ls) regions) bases.0 bases.0)
      (loads_whole (region + length l.regions) ls bases.1 (all_back (λ r. IsWholeBase r.base) l.regions (flat_map (λ m. m.regions) ls) regions))

pub origin_whole : (k : Kind) → AllByRecursion (λ l. l.base % 4 ≡ 0) (description k) → origin_of k % 4 ≡ 0
origin_whole (kind.Scatter s) h = refl
origin_whole (kind.Plain base) h = refl
origin_whole (kind.Aif base true) h = h.0
origin_whole (kind.Aif base false) h = refl

pub whole_law : WholeLaw
whole_law k c words h = loads_whole k c words (origin_whole k h.loads) h.items 0 (description k) h.loads h.regions

-- ---- load addresses

from_loaded : (k : Kind) (c : Contents) (words region : ℕ) (rs : List ScatterRegion) (before load most : ℕ) → load + sum_by length_of (planned_from k c words region rs before load) ≤ most
    → AllByRecursion (λ r. r.load + length_of r ≤ most) (planned_from k c words region rs before load)
from_loaded k c words region [] before load most h = tt
from_loaded k c words region (r ∷ rs) before load most h =
    let p : Planned = planned k c words region r before load in
    let all = sum_by-cons length_of p (planned_from k c words (suc region) rs (end_of p) (load + length_of p)) in
    (omega (arith, h, all), from_loaded k c words (suc region) rs (end_of p) (load + length_of p) most (omega (arith, h, all)))

pub loads_loaded : (k : Kind) (c : Contents) (words region : ℕ) (ls : List ScatterLoad) (most : ℕ) → AllByRecursion (λ l. l.base + load_size l ≤ most) (loads_from k c words region ls)
    → AllByRecursion (λ r. r.load + length_of r ≤ most) (regions_of (loads_from k c words region ls))
loads_loaded k c words region [] most h = tt
loads_loaded k c words region (l ∷ ls) most h =
    all_append (λ r. r.load + length_of r ≤ most) (planned_from k c words region l.regions l.base l.base) (regions_of (loads_from k c words (region + length l.regions) ls))
    (from_loaded k c words region l.regions l.base l.base most h.0)
    (loads_loaded k c words (region + length l.regions) ls most h.1)
