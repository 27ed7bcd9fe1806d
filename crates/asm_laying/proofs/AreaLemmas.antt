-- Areas by their names.
use Rattle.std.proofs.Common.{◌≡◌, ◌<◌, ℕ, ◌+◌, ◌||◌, Bool, true, false, cond, List, [], ◌∷◌, ◌++◌, length, Option, Some, None, refl, sym, ap, ◌∙◌, subst, add-one, arith, length-append}
use Rattle.std.specs.Ordering.{nat_cmp}
use Rattle.std.specs.Cmp.Lexicographic.{slice_cmp}
use Rattle.std.specs.BTreeMap.{UpdatesBy}
use Rattle.std.specs.List.{list_any}
use Rattle.asm_model.specs.declared.values.Value.{Value}
use Rattle.asm_model.specs.declared.statements.What.{What}
use Rattle.asm_model.specs.Forms.{same}
use Rattle.asm_model.proofs.WordLemmas.{same_refl}
use Rattle.asm_expr.specs.Places.{number_in, or_number, one_later}
use Rattle.asm_expr.proofs.PlaceLemmas.{noted}
use Rattle.asm_model.specs.Before.{with_name, place_of}
use Rattle.asm_model.specs.Extents.{pool_alignment, alignment}
use Rattle.asm_model.specs.Laid.{aligned_end}
use Rattle.asm_model.specs.Offsets.{Piece, raised, waiting, end_behind}
use Rattle.asm_offsets.specs.Coded.{IsAlignment}
use Rattle.asm_offsets.specs.Running.{Standing, nothing, IsBehind, IsThere, start_behind, pool_alignment_behind}
use Rattle.asm_laying.specs.declared.areas.Areas.{Areas}
use Rattle.asm_laying.specs.Numbered.{number_of, AreNumbered, Enters}
use Rattle.asm_expr.proofs.PlaceLemmas.{later_or}
use Rattle.asm_model.proofs.SharedLemmas.{same_back as same_sym}

later_none : (o : Option ℕ) → one_later o ≡ None → o ≡ None
later_none None h = refl
later_none (Some k) h = absurd (cc)

later_some : (o : Option ℕ) (k : ℕ) → one_later o ≡ Some k → (j : ℕ) × (o ≡ Some j) × (j + 1 ≡ k)
later_some None k h = absurd (cc)
later_some (Some j) k h = (j, refl, cc)

-- ---- a name that has no number yet

is_new : (q : List ℕ) (names : List (List ℕ)) → number_of q names ≡ None
    → (list_any (same q) names ≡ false) × (place_of q (names ++ q ∷ []) ≡ length names)
is_new q [] h = (refl, ap (λ b. cond b 0 (0 + 1)) (same_refl q))
is_new q (m ∷ ms) h = by_test (same q m) h (is_new q ms)
  where
    by_test : (b : Bool) → cond b (Some 0) (one_later (number_of q ms)) ≡ None
        → (number_of q ms ≡ None → (list_any (same q) ms ≡ false) × (place_of q (ms ++ q ∷ []) ≡ length ms))
        → ((b || list_any (same q) ms) ≡ false) × (cond b 0 (place_of q (ms ++ q ∷ []) + 1) ≡ length (m ∷ ms))
    by_test true k rest = absurd (cc)
    by_test false k rest = let r = rest (later_none (number_of q ms) k) in (r.0, ap (λ n. n + 1) r.1 ∙ add-one (length ms))

-- ---- a name that has one

is_old : (q : List ℕ) (names : List (List ℕ)) (k : ℕ) → number_of q names ≡ Some k
    → (list_any (same q) names ≡ true) × (place_of q names ≡ k) × (k < length names)
is_old q [] k h = absurd (cc)
is_old q (m ∷ ms) k h = by_test (same q m) h (λ i e. is_old q ms i e)
  where
    by_test : (b : Bool) → cond b (Some 0) (one_later (number_of q ms)) ≡ Some k
        → ((i : ℕ) → number_of q ms ≡ Some i → (list_any (same q) ms ≡ true) × (place_of q ms ≡ i) × (i < length ms))
        → ((b || list_any (same q) ms) ≡ true) × (cond b 0 (place_of q ms + 1) ≡ k) × (k < length (m ∷ ms))
    by_test true e rest = let z : 0 ≡ k = cc in (refl, z, omega arith)
    by_test false e rest =
        let j = later_some (number_of q ms) k e in
        let r = rest j.0 j.1 in
        let at : j.0 + 1 ≡ k = j.2 in
        let less : j.0 < length ms = r.2 in
        (r.0, ap (λ n. n + 1) r.1 ∙ at, omega arith)

-- ---- a name more

numbered_more : (q : List ℕ) (names : List (List ℕ)) (x : List ℕ) → number_of q (names ++ x ∷ []) ≡ or_number (number_of q names) x (length names) q
numbered_more q [] x = ap (λ b. cond b (Some 0) None) (same_sym q x)
numbered_more q (n ∷ ns) x = by_test (same q n) (numbered_more q ns x)
  where
    by_test : (b : Bool) → number_of q (ns ++ x ∷ []) ≡ or_number (number_of q ns) x (length ns) q
        → cond b (Some 0) (one_later (number_of q (ns ++ x ∷ []))) ≡ or_number (cond b (Some 0) (one_later (number_of q ns))) x (length (n ∷ ns)) q
    by_test true h = refl
    by_test false h =
        ap one_later h ∙ later_or (number_of q ns) x q (length ns)
        ∙ ap (λ k. or_number (one_later (number_of q ns)) x k q) (add-one (length ns))

-- ---- areas

pub goes_back : (a : Areas) (n : List ℕ) (k : ℕ) → number_in a.numbers n ≡ Some k → Enters (Some n) a (record a { current = Some k })
goes_back a n k is names current pieces h =
    let old = is_old n names k (sym (h.numbers n) ∙ is) in
    let same_names : with_name (Some n) names ≡ names = ap (λ b. cond b names (names ++ n ∷ [])) old.0 in
    subst (λ (l : List (List ℕ)). AreNumbered l (Some (place_of n l)) pieces (record a { current = Some k })) (sym same_names)
    (record {
      numbers = h.numbers;
      count = h.count;
      here = ap Some (sym old.1);
      there = let less : k < length names = old.2 in let c = h.count in let e = h.each in omega arith;
      each = h.each;
      ends = h.ends;
    })

pub goes_on : (a b : Areas) (n : List ℕ) → number_in a.numbers n ≡ None
    → UpdatesBy (slice_cmp nat_cmp) (slice_cmp nat_cmp n) a.numbers b.numbers (Some a.count) → b.count ≡ a.count + 1 → b.current ≡ Some a.count
    → b.ends ≡ a.ends ++ nothing ∷ [] → ((pieces : List Piece) → IsBehind pieces a.ends → IsBehind pieces b.ends) → Enters (Some n) a b
goes_on a b n is updates more at ends behind names current pieces h =
    let new = is_new n names (sym (h.numbers n) ∙ is) in
    let more_names : with_name (Some n) names ≡ names ++ n ∷ [] = ap (λ t. cond t names (names ++ n ∷ [])) new.0 in
    let count : a.count ≡ length names = h.count in
    let long : length (names ++ n ∷ []) ≡ length names + 1 = length-append names (n ∷ []) in
    let ended : length b.ends ≡ length a.ends + 1 = ap (λ (l : List Standing). length l) ends ∙ length-append a.ends (nothing ∷ []) in
    let each : length a.ends ≡ a.count = h.each in
    let here : b.current ≡ Some (length names) = at ∙ ap Some count in
    subst (λ (l : List (List ℕ)). AreNumbered l (Some (place_of n l)) pieces b) (sym more_names)
    (record {
      numbers = λ q. noted a.numbers b.numbers n a.count is updates q ∙ ap (λ o. or_number o n a.count q) (h.numbers q)
          ∙ ap (λ k. or_number (number_of q names) n k q) count ∙ sym (numbered_more q names n);
      count = omega arith;
      here = here ∙ ap Some (sym new.1);
      there = subst (λ (o : Option ℕ). IsThere o b.ends) (sym at) (omega arith);
      each = omega arith;
      ends = behind pieces h.ends;
    })

-- ---- offsets

pub pool_small : (area : Option ℕ) (pieces : List Piece) (pool : ℕ) → pool ≡ pool_alignment_behind area pieces → IsAlignment pool
pool_small None pieces pool h = rw h (record { some = omega arith; small = omega arith })
pool_small (Some a) pieces pool h = rw h (by (waiting a pieces))
  where
    by : (vs : List Value) → IsAlignment (pool_alignment vs)
    by [] = record { some = omega arith; small = omega arith }
    by (v ∷ vs) = record { some = omega arith; small = omega arith }

pub starts_at : (area : Option ℕ) (pieces : List Piece) (thumb : Bool) (w : What) (pool aligned start : ℕ) → pool ≡ pool_alignment_behind area pieces
    → ((literals : List Value) → pool ≡ pool_alignment literals → aligned ≡ alignment thumb literals w)
    → start ≡ start_behind area pieces aligned → start ≡ aligned_end area pieces thumb w
starts_at None pieces thumb w pool aligned start p a s = s
starts_at (Some area) pieces thumb w pool aligned start p a s = s ∙ ap (raised (end_behind area pieces)) (a (waiting area pieces) p)
