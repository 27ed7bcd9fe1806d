-- The map of the ranges of pieces: a piece meets one exactly where the last entry that begins below its end ends beyond its
-- base, and one more piece that meets none is one more entry.
use Rattle.std.proofs.Common.{◌≡◌, ◌≢◌, ◌∙◌, ℕ, ◌<◌, ◌≤◌, ◌⊎◌, inl, inr, List, [], ◌∷◌, ◌++◌, length, Bool, true, false, cond, ◌==◌, ◌&&◌, ◌||◌, nat_lt, Option, Some, None, refl, sym, ap, arith}
use Rattle.std.specs.Prelude.{IsSome}
use Rattle.std.specs.BTreeMap.{BTreeMap, Updates, get}
use Rattle.std.specs.List.{list_any}
use Rattle.std.specs.Ordering.{is_eq, is_lt, nat_cmp}
use Rattle.std.specs.declared.cmp.Ordering.TheVariants.{Equal, Greater, Less}
use Rattle.std.proofs.lemmas.Bool.{cases_eq, cond-false, cond-true, ltb-true, ltb-false, lt-ltb, ne_eqb}
use Rattle.std.proofs.lemmas.Cmp.{ranked}
use Rattle.std.proofs.lemmas.List.Folds.{list_any-append}
use Rattle.hex_image.specs.declared.records.Piece.{Piece}
use Rattle.hex_image.specs.Images.{end_of, meets, meets_range}
use Rattle.hex_image.specs.Ranges.{AreEnds}

no_entry : (o : Option ℕ) (n : ℕ) → o ≡ None → o ≡ Some n → ⊥
no_entry None n e h = cc
no_entry (Some m) n e h = cc

same_entry : (o : Option ℕ) (n m : ℕ) → o ≡ Some n → o ≡ Some m → n ≡ m
same_entry o n m e h = cc

pub no_ends : (ends : ℕ → Option ℕ) → ((k : ℕ) → ends k ≡ None) → AreEnds [] ends
no_ends ends none = record {
  all = λ test h. refl;
  only = λ base end e test h. absurd (no_entry (ends base) end (none base) e);
  some = λ base end e. absurd (no_entry (ends base) end (none base) e);
  apart = λ base end other last e f lt. absurd (no_entry (ends base) end (none base) e);
}

-- ---- a range meets a piece

both_hold : (a b : Bool) → a ≡ true → b ≡ true → (a && b) ≡ true
both_hold true b e h = h
both_hold false b e h = absurd cc

first_fails : (a b : Bool) → a ≡ false → (a && b) ≡ false
first_fails true b e = absurd cc
first_fails false b e = refl

second_fails : (a b : Bool) → b ≡ false → (a && b) ≡ false
second_fails true b e = e
second_fails false b e = refl

not_below : (a b : ℕ) → b ≤ a → nat_lt a b ≡ false
not_below a b h = grind arith

pub met : (ps : List Piece) (ends : ℕ → Option ℕ) (base end first last : ℕ) → AreEnds ps ends → ends first ≡ Some last → first < end → base < last → list_any (meets_range base end) ps ≡ true
met ps ends base end first last are is low high =
    are.only first last is (meets_range base end)
    (λ p b e. both_hold (nat_lt base (end_of p)) (nat_lt p.base end) (lt-ltb base (end_of p) (omega (arith, e))) (lt-ltb p.base end (omega (arith, b))))

pub unmet : (ps : List Piece) (ends : ℕ → Option ℕ) (base end : ℕ) → AreEnds ps ends → ((first last : ℕ) → ends first ≡ Some last → first < end → last ≤ base) → list_any (meets_range base end) ps ≡ false
unmet ps ends base end are h = are.all (meets_range base end) (λ p is. by p is (nat_lt p.base end) refl)
  where
    by : (p : Piece) → ends p.base ≡ Some (end_of p) → (t : Bool) → nat_lt p.base end ≡ t → meets_range base end p ≡ false
    by p is true e = first_fails (nat_lt base (end_of p)) (nat_lt p.base end) (not_below base (end_of p) (h p.base (end_of p) is (ltb-true p.base end e)))
    by p is false e = second_fails (nat_lt base (end_of p)) (nat_lt p.base end) e

some_entry : (o : Option ℕ) (n : ℕ) → o ≡ Some n → IsSome o
some_entry (Some m) n e = refl
some_entry None n e = absurd cc

below_or_same : (a b : ℕ) → a ≤ b → (a ≡ b) ⊎ (a < b)
below_or_same a b h = by (nat_lt a b) refl
  where
    by : (t : Bool) → nat_lt a b ≡ t → (a ≡ b) ⊎ (a < b)
    by true e = inr (ltb-true a b e)
    by false e = let k = ltb-false a b e in inl (omega arith)

-- by the last entry that begins below the end
pub met_by : (ps : List Piece) (ends : ℕ → Option ℕ) (base end first last : ℕ) → AreEnds ps ends → ends first ≡ Some last → first < end → ((q : ℕ) → q < end → IsSome (ends q) → q ≤ first) → nat_lt base last ≡ list_any (meets_range base end) ps
met_by ps ends base end first last are is low most = by (nat_lt base last) refl
  where
    by : (t : Bool) → nat_lt base last ≡ t → t ≡ list_any (meets_range base end) ps
    by true e = sym (met ps ends base end first last are is low (ltb-true base last e))
    by false e =
        let stop : last ≤ base = ltb-false base last e in
        sym (unmet ps ends base end are (λ f l is' lt. earlier f l is' (most f lt (some_entry (ends f) l is')) stop))
      where
        earlier : (f l : ℕ) → ends f ≡ Some l → f ≤ first → last ≤ base → l ≤ base
        earlier f l is' le stop = elim (below_or_same f first le) [
          | inl eq ↦ let same : ends first ≡ Some l = ap ends (sym eq) ∙ is' in let e = same_entry (ends first) last l is same in omega (arith, e)
          | inr lt ↦ let a = are.apart f l first last is' is lt in let b = are.some first last is in omega (arith, a, b)
        ]

-- ---- one more piece

-- an entry lies below a piece that meets none, or above
apart_from : (ps : List Piece) (ends : ℕ → Option ℕ) (p : Piece) (first last : ℕ) → AreEnds ps ends → list_any (meets p) ps ≡ false → ends first ≡ Some last → (last ≤ p.base) ⊎ (end_of p ≤ first)
apart_from ps ends p first last are none is = by (nat_lt p.base last) refl (nat_lt first (end_of p)) refl
  where
    by : (t : Bool) → nat_lt p.base last ≡ t → (u : Bool) → nat_lt first (end_of p) ≡ u → (last ≤ p.base) ⊎ (end_of p ≤ first)
    by false e u f = inl (ltb-false p.base last e)
    by true e false f = inr (ltb-false first (end_of p) f)
    by true e true f =
        let some = met ps ends p.base (end_of p) first last are is (ltb-true first (end_of p) f) (ltb-true p.base last e) in
        absurd (cc)

-- the map with one more entry
pub record IsMore (p : Piece) (old new : ℕ → Option ℕ) : Type 0 where
  pub here : new p.base ≡ Some (end_of p)
  pub there : (q : ℕ) → q ≢ p.base → new q ≡ old q

-- an entry of the new map is the piece's, or an old one elsewhere
which : (p : Piece) (old new : ℕ → Option ℕ) (first last : ℕ) → IsMore p old new → new first ≡ Some last → ((first ≡ p.base) × (last ≡ end_of p)) ⊎ (old first ≡ Some last)
which p old new first last more is = elim (cases_eq first p.base) [
  | inl e ↦ let here : new first ≡ Some (end_of p) = ap new e ∙ more.here in inl (e, same_entry (new first) last (end_of p) is here)
  | inr n ↦ inr (sym (more.there first n) ∙ is)
]

any_last : (test : Piece → Bool) (ps : List Piece) (p : Piece) → list_any test (ps ++ p ∷ []) ≡ (list_any test ps || (test p || false))
any_last test ps p = list_any-append test ps (p ∷ [])

neither_holds : (a b : Bool) → a ≡ false → b ≡ false → (a || (b || false)) ≡ false
neither_holds a b e f = rw (e, f) refl

first_holds : (a b : Bool) → a ≡ true → (a || (b || false)) ≡ true
first_holds a b e = rw e refl

second_holds : (a b : Bool) → b ≡ true → (a || (b || false)) ≡ true
second_holds true b e = refl
second_holds false b e = rw e refl

pub one_more : (ps : List Piece) (p : Piece) (old new : ℕ → Option ℕ) → AreEnds ps old → 0 < length p.bytes → list_any (meets p) ps ≡ false → IsMore p old new → AreEnds (ps ++ p ∷ []) new
one_more ps p old new are some none more = record {
  all = λ test h.
      any_last test ps p
      ∙ neither_holds (list_any test ps) (test p)
      (are.all test (λ q is. h q (more.there q.base (λ e. absent q is e) ∙ is)))
      (h p more.here);
  only = λ base end is test h. any_last test ps p ∙ elim (which p old new base end more is) [
    | inl here ↦ second_holds (list_any test ps) (test p) (h p (sym here.0) (sym here.1))
    | inr there ↦ first_holds (list_any test ps) (test p) (are.only base end there test h)
  ];
  some = λ base end is. elim (which p old new base end more is) [
    | inl here ↦ omega (arith, here.0, here.1)
    | inr there ↦ are.some base end there
  ];
  apart = λ base end other last is is' lt. elim (which p old new base end more is) [
    | inl here ↦ elim (which p old new other last more is') [
      | inl here' ↦ absurd (omega (arith, here.0, here'.0))
      | inr there' ↦ elim (apart_from ps old p other last are none there') [
        | inl low ↦ let k = are.some other last there' in absurd (omega (arith, here.0, low, k))
        | inr high ↦ omega (arith, here.1, high)
      ]
    ]
    | inr there ↦ elim (which p old new other last more is') [
      | inl here' ↦ elim (apart_from ps old p base end are none there) [
        | inl low ↦ omega (arith, here'.0, low)
        | inr high ↦ absurd (omega (arith, here'.0, high, some))
      ]
      | inr there' ↦ are.apart base end other last there there' lt
    ]
  ];
}
  where
    -- no old entry begins where the piece does
    absent : (q : Piece) → old q.base ≡ Some (end_of q) → q.base ≡ p.base → ⊥
    absent q is e =
        let k = are.some q.base (end_of q) is in
        elim (apart_from ps old p q.base (end_of q) are none is) [
          | inl low ↦ omega (arith, k, low, e)
          | inr high ↦ omega (arith, high, e, some)
        ]

-- ---- what the map's calls say

pub less_below : (a b : ℕ) → nat_cmp a b ≡ Less → a < b
less_below a b h = ranked a b Less (sym h)

pub below_less : (a b : ℕ) → a < b → nat_cmp a b ≡ Less
below_less a b h = cond-true (nat_lt a b) Less (cond (a == b) Equal Greater) (lt-ltb a b h)

pub not_less : (a b : ℕ) → is_lt (nat_cmp a b) ≡ false → b ≤ a
not_less a b h = by (nat_lt a b) refl
  where
    by : (t : Bool) → nat_lt a b ≡ t → b ≤ a
    by true e = let less = below_less a b (ltb-true a b e) in absurd (let no = rw less at h in cc)
    by false e = ltb-false a b e

at_same : (a : ℕ) → is_eq (nat_cmp a a) ≡ true
at_same a =
    let less : nat_lt a a ≡ false = not_below a a (omega arith) in
    let same : (a == a) ≡ true = grind arith in
    rw (less, same) refl

at_other : (a b : ℕ) → b ≢ a → is_eq (nat_cmp a b) ≡ false
at_other a b h = by (nat_lt a b) refl
  where
    by : (t : Bool) → nat_lt a b ≡ t → is_eq (nat_cmp a b) ≡ false
    by true e = rw e refl
    by false e = let same : (a == b) ≡ false = ne_eqb a b (λ f. h (sym f)) in rw (e, same) refl

pub more_entries : (p : Piece) (m n : BTreeMap ℕ ℕ) (base end : ℕ) → base ≡ p.base → end ≡ end_of p → Updates nat_cmp m n base (Some end) → IsMore p (λ k. get nat_cmp m k) (λ k. get nat_cmp n k)
more_entries p m n base end b e u = record {
  here = ap (λ (k : ℕ). get nat_cmp n k) (sym b) ∙ u.0 base ∙ cond-true (is_eq (nat_cmp base base)) (Some end) (get nat_cmp m base) (at_same base) ∙ ap Some e;
  there = λ q other. u.0 q ∙ cond-false (is_eq (nat_cmp base q)) (Some end) (get nat_cmp m q) (at_other base q (λ f. other (f ∙ b)));
}
