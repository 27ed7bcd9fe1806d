-- Things whose words are shifted, one behind the other.
use Rattle.std.proofs.Common.{◌≡◌, ℕ, ◌+◌, ◌%◌, ◌<◌, ◌≤◌, List, [], ◌∷◌, ◌++◌, length, refl, sym, ap, ◌∙◌, arith}
use Rattle.std.specs.Prelude.{sum_by}
use Rattle.std.specs.List.{flat_map, AllByRecursion}
use Rattle.std.proofs.lemmas.List.Sums.{sum_by-cons, sum_by-append}
use Rattle.boot_code.specs.Startup.{zeros}
use Rattle.boot_code.proofs.ViewLemmas.{length-zeros}
use Rattle.place_model.specs.Plans.{Planned, zero_base_of, end_of, stood_in}
use Rattle.place_model.specs.Things.{Thing, alignment_of, size_of, gap, start_of, extent, stood, Stood}
use Rattle.place_model.proofs.GapLemmas.{IsWhole, gap-whole}
use Rattle.image_model.specs.Regions.{laid}
use Rattle.link_laws.specs.AifJoins.{shifted_words}
use Rattle.link_laws.proofs.Shifts.Plans.{gap_moves, next_moves}
use Rattle.link_laws.proofs.Shifts.Words.{shifted_same, shifted_none, shifted_append}

-- the same things at another base
pub laid_moves : (held : Thing → List ℕ) (origin at by : ℕ) (ts : List Thing) → laid held (origin + by) (at + by) ts ≡ laid held origin at ts
laid_moves held origin at by [] = refl
laid_moves held origin at by (t ∷ ts) =
    let rest = ap (λ n. laid held (origin + by) n ts) (next_moves origin at by t) ∙ laid_moves held origin (start_of origin at t + size_of t) by ts in
    ap (λ n. zeros n ++ (held t ++ laid held (origin + by) (start_of (origin + by) (at + by) t + size_of t) ts)) (gap_moves origin (alignment_of t) at by)
    ∙ ap (λ (bs : List ℕ). zeros (gap origin (alignment_of t) at) ++ (held t ++ bs)) rest

module _ (count : Stood → ℕ → ℕ) where
  -- it counts nothing outside
  pub record IsInside (s : Stood) : Type 0 where
    pub before : (x : ℕ) → x < s.address → count s x ≡ 0
    pub behind : (x : ℕ) → s.address + size_of s.thing ≤ x → count s x ≡ 0

  nothing_before : (origin at : ℕ) (ts : List Thing) (x : ℕ) → AllByRecursion IsInside (stood origin at ts) → x < at → sum_by (λ s. count s x) (stood origin at ts) ≡ 0
  nothing_before origin at [] x all lt = refl
  nothing_before origin at (t ∷ ts) x (h, all) lt =
      let s : Stood = record { thing = t; address = start_of origin at t } in
      let first = h.before x (omega (arith, lt)) in
      let rest = nothing_before origin (start_of origin at t + size_of t) ts x all (omega (arith, lt)) in
      sum_by-cons (λ z. count z x) s (stood origin (start_of origin at t + size_of t) ts) ∙ omega (arith, first, rest)

  nothing_behind : (origin at : ℕ) (ts : List Thing) (x : ℕ) → AllByRecursion IsInside (stood origin at ts) → at + extent origin at ts ≤ x → sum_by (λ s. count s x) (stood origin at ts) ≡ 0
  nothing_behind origin at [] x all le = refl
  nothing_behind origin at (t ∷ ts) x (h, all) le =
      let s : Stood = record { thing = t; address = start_of origin at t } in
      let first = h.behind x (omega (arith, le)) in
      let rest = nothing_behind origin (start_of origin at t + size_of t) ts x all (omega (arith, le)) in
      sum_by-cons (λ z. count z x) s (stood origin (start_of origin at t + size_of t) ts) ∙ omega (arith, first, rest)

  -- the words of each are those that it counts itself
  pub each_thing : (origin at : ℕ) (ts : List Thing) → AllByRecursion IsInside (stood origin at ts) → (shifts : ℕ → ℕ)
      → ((x : ℕ) → at ≤ x → x < at + extent origin at ts → shifts x ≡ sum_by (λ s. count s x) (stood origin at ts))
      → AllByRecursion (λ s. (x : ℕ) → s.address ≤ x → x < s.address + size_of s.thing → shifts x ≡ count s x) (stood origin at ts)
  each_thing origin at [] all shifts same = tt
  each_thing origin at (t ∷ ts) (h, all) shifts same = (
    λ x low high.
        let rest = nothing_before origin (start_of origin at t + size_of t) ts x all high in
        same x (omega (arith, low)) (omega (arith, high)) ∙ sum_by-cons (λ z. count z x) (record { thing = t; address = start_of origin at t }) (stood origin (start_of origin at t + size_of t) ts) ∙ omega (arith, rest),
    each_thing origin (start_of origin at t + size_of t) ts all shifts (λ x low high.
        let first = h.behind x low in
        same x (omega (arith, low)) (omega (arith, high)) ∙ sum_by-cons (λ z. count z x) (record { thing = t; address = start_of origin at t }) (stood origin (start_of origin at t + size_of t) ts) ∙ omega (arith, first)),
  )

  module _ (by : ℕ) (held other : Thing → List ℕ) where
    pub record IsShiftedThing (s : Stood) : Type 0 where
      pub inside : IsInside s
      pub whole : IsWhole s.thing
      pub size : length (held s.thing) ≡ size_of s.thing
      pub shifted : other s.thing ≡ shifted_words by (count s) s.address (held s.thing)

    insides : (ss : List Stood) → AllByRecursion IsShiftedThing ss → AllByRecursion IsInside ss
    insides [] all = tt
    insides (s ∷ ss) (h, all) = (h.inside, insides ss all)

    pub laid_shifted : (origin at : ℕ) (ts : List Thing) → origin % 4 ≡ 0 → at % 4 ≡ 0 → AllByRecursion IsShiftedThing (stood origin at ts)
        → (shifts : ℕ → ℕ) → ((x : ℕ) → at ≤ x → x < at + extent origin at ts → shifts x ≡ sum_by (λ s. count s x) (stood origin at ts))
        → laid other origin at ts ≡ shifted_words by shifts at (laid held origin at ts)
    laid_shifted origin at [] ho ha all shifts same = refl
    laid_shifted origin at (t ∷ ts) ho ha (h, all) shifts same =
        let s : Stood = record { thing = t; address = start_of origin at t } in
        let g : ℕ = gap origin (alignment_of t) at in
        let next : ℕ = start_of origin at t + size_of t in
        let aligned = gap-whole origin (alignment_of t) at h.whole.positive h.whole.alignment ho ha in
        let size_4 = h.whole.size in
        let size = h.size in
        let zero_count = length-zeros g in
        let inside = insides (stood origin next ts) all in
        let split : (x : ℕ) → at ≤ x → x < at + extent origin at (t ∷ ts) → shifts x ≡ count s x + sum_by (λ z. count z x) (stood origin next ts) =
        λ x low high. same x low high ∙ sum_by-cons (λ z. count z x) s (stood origin next ts) in
        let in_gap : shifted_words by shifts at (zeros g) ≡ zeros g =
        shifted_none by shifts at (zeros g) (λ i lt.
        let first = h.inside.before (at + i) (omega (arith, lt, zero_count)) in
        let rest = nothing_before origin next ts (at + i) inside (omega (arith, lt, zero_count)) in
        split (at + i) (omega arith) (omega (arith, lt, zero_count)) ∙ omega (arith, first, rest)) in
        let in_thing : shifted_words by shifts (start_of origin at t) (held t) ≡ other t =
        shifted_same by shifts (count s) (start_of origin at t) (start_of origin at t) (held t) (λ i lt.
        let rest = nothing_before origin next ts (start_of origin at t + i) inside (omega (arith, lt, size)) in
        split (start_of origin at t + i) (omega arith) (omega (arith, lt, size)) ∙ omega (arith, rest))
        ∙ sym h.shifted in
        let behind : laid other origin next ts ≡ shifted_words by shifts next (laid held origin next ts) =
        laid_shifted origin next ts ho (omega (arith, aligned, size_4, ha)) all shifts (λ x low high.
        let first = h.inside.behind x low in
        split x (omega (arith, low)) (omega (arith, high)) ∙ omega (arith, first)) in
        let own_start : at + length (zeros g) ≡ start_of origin at t = omega (arith, zero_count) in
        let own_next : start_of origin at t + length (held t) ≡ next = omega (arith, size) in
        let front : List ℕ = laid held origin next ts in
        sym (
        shifted_append by shifts at (zeros g) (held t ++ front) (omega (arith, zero_count, aligned, ha))
        ∙ ap (λ (bs : List ℕ). bs ++ shifted_words by shifts (at + length (zeros g)) (held t ++ front)) in_gap
        ∙ ap (λ n. zeros g ++ shifted_words by shifts n (held t ++ front)) own_start
        ∙ ap (λ (bs : List ℕ). zeros g ++ bs) (
        shifted_append by shifts (start_of origin at t) (held t) front (omega (arith, size, size_4))
        ∙ ap (λ (bs : List ℕ). bs ++ shifted_words by shifts (start_of origin at t + length (held t)) front) in_thing
        ∙ ap (λ n. other t ++ shifted_words by shifts n front) own_next ∙ ap (λ (bs : List ℕ). other t ++ bs) (sym behind)))

  -- ---- regions, one behind the other

  abbrev pub AreFrom : ℕ → List Planned → Type 0
  AreFrom at [] = Unit {0}
  AreFrom at (r ∷ rs) = (at ≤ r.base) × AreFrom (end_of r) rs

  pub record IsInsideRegion (r : Planned) : Type 0 where
    pub things : AllByRecursion IsInside (stood r.origin r.base r.things)
    pub zeros : AllByRecursion IsInside (stood r.origin (zero_base_of r) r.zeros)

  abbrev pub total : List Planned → ℕ → ℕ
  total rs x = sum_by (λ s. count s x) (flat_map stood_in rs)

  split_region : (r : Planned) (rs : List Planned) (x : ℕ)
      → total (r ∷ rs) x ≡ sum_by (λ s. count s x) (stood r.origin r.base r.things) + sum_by (λ s. count s x) (stood r.origin (zero_base_of r) r.zeros) + total rs x
  split_region r rs x =
      let outer = sum_by-append (λ s. count s x) (stood_in r) (flat_map stood_in rs) in
      let inner = sum_by-append (λ s. count s x) (stood r.origin r.base r.things) (stood r.origin (zero_base_of r) r.zeros) in
      omega (arith, outer, inner)

  none_before : (at : ℕ) (rs : List Planned) (x : ℕ) → AreFrom at rs → AllByRecursion IsInsideRegion rs → x < at → total rs x ≡ 0
  none_before at [] x order all lt = refl
  none_before at (r ∷ rs) x (from, order) (h, all) lt =
      let one = nothing_before r.origin r.base r.things x h.things (omega (arith, lt, from)) in
      let two = nothing_before r.origin (zero_base_of r) r.zeros x h.zeros (omega (arith, lt, from)) in
      let rest = none_before (end_of r) rs x order all (omega (arith, lt, from)) in
      split_region r rs x ∙ omega (arith, one, two, rest)

  -- what is loaded of each
  pub each_region : (at : ℕ) (rs : List Planned) → AreFrom at rs → AllByRecursion IsInsideRegion rs → (shifts : ℕ → ℕ) → ((x : ℕ) → at ≤ x → shifts x ≡ total rs x)
      → AllByRecursion (λ r. (x : ℕ) → r.base ≤ x → x < zero_base_of r → shifts x ≡ sum_by (λ s. count s x) (stood r.origin r.base r.things)) rs
  each_region at [] order all shifts same = tt
  each_region at (r ∷ rs) (from, order) (h, all) shifts same = (
    λ x low high.
        let two = nothing_before r.origin (zero_base_of r) r.zeros x h.zeros high in
        let rest = none_before (end_of r) rs x order all (omega (arith, high)) in
        same x (omega (arith, low, from)) ∙ split_region r rs x ∙ omega (arith, two, rest),
    each_region (end_of r) rs order all shifts (λ x low.
        let one = nothing_behind r.origin r.base r.things x h.things (omega (arith, low)) in
        let two = nothing_behind r.origin (zero_base_of r) r.zeros x h.zeros (omega (arith, low)) in
        same x (omega (arith, low, from)) ∙ split_region r rs x ∙ omega (arith, one, two)),
  )
