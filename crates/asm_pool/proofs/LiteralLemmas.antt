-- Literals that are the same are equal values, and those that the order of values ties.
use Rattle.std.proofs.Common.{rules, ◌≡◌, ℕ, ◌+◌, List, [], ◌∷◌, ◌++◌, length, Bool, true, false, cond, Option, Some, None, refl, sym, ap, ◌∙◌, arith, ◌==◌, ◌&&◌}
use Rattle.std.specs.Ordering.{nat_cmp, is_eq, ordering_then}
use Rattle.std.specs.declared.cmp.Ordering.{Ordering}
use Rattle.std.specs.declared.cmp.Ordering.TheVariants.{Less, Equal, Greater}
use Rattle.std.specs.Cmp.Lexicographic.{slice_cmp}
use Rattle.std.proofs.lemmas.Bool.Decides.{nat_tests}
use Rattle.std.specs.BTreeMap.{IsEmpty}
use Rattle.std.proofs.lemmas.Map.Text.{is_eq-slice_cmp}
use Rattle.std.proofs.lemmas.Bool.{false_from_ne_true}
use Rattle.asm_model.specs.declared.values.Value.{Value}
use Rattle.asm_model.specs.declared.values.Value.TheVariants.{Number, Truth, Words, Place}
use Rattle.asm_model.specs.contracts.values.ValueOrd.TheImpl as order
use Rattle.asm_pool.specs.Pooled.{LiteralLaw, same_literal, one_later, place_among}
use Rattle.asm_pool.specs.Index.{Numbers, number_in, numbered, IsIndexOf}

both : (a b : Ordering) → is_eq (ordering_then a b) ≡ is_eq a && is_eq b
both Less b = refl
both Equal b = refl
both Greater b = refl

tied_numbers : (m n : ℕ) → is_eq (nat_cmp m n) ≡ m == n
tied_numbers m n = grind (arith, nat_tests)

pub tied : (v w : Value) → is_eq ((order.ghosts).cmp v w) ≡ same_literal v w
tied (Number m) (Number n) = tied_numbers m n
tied (Number m) (Truth b) = refl
tied (Number m) (Words w) = refl
tied (Number m) (Place t q) = refl
tied (Truth a) (Number n) = refl
tied (Truth true) (Truth true) = refl
tied (Truth true) (Truth false) = refl
tied (Truth false) (Truth true) = refl
tied (Truth false) (Truth false) = refl
tied (Truth a) (Words w) = refl
tied (Truth a) (Place t q) = refl
tied (Words v) (Number n) = refl
tied (Words v) (Truth b) = refl
tied (Words v) (Words w) = is_eq-slice_cmp v w
tied (Words v) (Place t q) = refl
tied (Place s p) (Number n) = refl
tied (Place s p) (Truth b) = refl
tied (Place s p) (Words w) = refl
tied (Place s p) (Place t q) = both (slice_cmp nat_cmp s t) (nat_cmp p q) ∙ rw (is_eq-slice_cmp s t, tied_numbers p q) refl

pub same_law : LiteralLaw
same_law = search rules

pub same_true : (v w : Value) → same_literal v w ≡ true → v ≡ w
same_true v w e = (same_law v w).0 e

pub same_refl : (v : Value) → same_literal v v ≡ true
same_refl v = (same_law v v).1 refl

pub same_back : (v w : Value) (b : Bool) → same_literal v w ≡ b → same_literal w v ≡ b
same_back v w true e = let h : v ≡ w = same_true v w e in rw h (same_refl w)
same_back v w false e = false_from_ne_true (same_literal w v) (λ t. let h : w ≡ v = same_true w v t in let r = same_refl w in cc)

-- ---- a map from literals to numbers, which are counted from one on

-- a literal that has no number
pub unplaced : (first : ℕ) (o : Option ℕ) → numbered first o ≡ None → o ≡ None
unplaced first None e = refl
unplaced first (Some i) e = absurd (cc)

pub placed_last : (q v : Value) (ws : List Value) → place_among q ws ≡ None → same_literal q v ≡ true → place_among q (ws ++ v ∷ []) ≡ Some (length ws)
placed_last q v [] n e = rw e refl
placed_last q v (w ∷ ws) n e = by_test (same_literal q w) (place_among q ws) (place_among q (ws ++ v ∷ [])) n (λ h. placed_last q v ws h e)
  where
    by_test : (b : Bool) (o p : Option ℕ) → cond b (Some 0) (one_later o) ≡ None → (o ≡ None → p ≡ Some (length ws))
        → cond b (Some 0) (one_later p) ≡ Some (length (w ∷ ws))
    by_test true o p n h = absurd (cc)
    by_test false None p n h = ap one_later (h refl)
    by_test false (Some i) p n h = absurd (cc)

placed_before : (q v : Value) (ws : List Value) → same_literal q v ≡ false → place_among q (ws ++ v ∷ []) ≡ place_among q ws
placed_before q v [] e = rw e refl
placed_before q v (w ∷ ws) e = ap (λ o. cond (same_literal q w) (Some 0) (one_later o)) (placed_before q v ws e)

-- a literal more, behind the others
pub index_more : (first : ℕ) (v : Value) (ws : List Value) (m n : Numbers) → IsIndexOf first ws m → number_in m v ≡ None
    → ((q : Value) → number_in n q ≡ cond (same_literal v q) (Some (first + length ws)) (number_in m q)) → IsIndexOf first (ws ++ v ∷ []) n
index_more first v ws m n index fresh more q = more q ∙ by_test (same_literal v q) refl
  where
    by_test : (b : Bool) → same_literal v q ≡ b → cond b (Some (first + length ws)) (number_in m q) ≡ numbered first (place_among q (ws ++ v ∷ []))
    by_test true e =
        let h : v ≡ q = same_true v q e in
        let none = unplaced first (place_among q ws) (sym (index q) ∙ ap (number_in m) (sym h) ∙ fresh) in
        sym (ap (numbered first) (placed_last q v ws none (same_back v q true e)))
    by_test false e = index q ∙ ap (numbered first) (sym (placed_before q v ws (same_back v q false e)))

-- of nothing
pub index_none : (first : ℕ) (m : Numbers) → IsEmpty m → IsIndexOf first [] m
index_none first m e q = rw e refl
