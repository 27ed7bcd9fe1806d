-- The areas of a region in order.
use Rattle.std.proofs.Common.{◌≡◌, ℕ, zero, suc, Bool, true, false, ◌&&◌, ◌==◌, nat_lt, if◌then◌else◌, List, [], ◌∷◌, refl, ap, ◌∙◌, arith, eq-eqb, Some}
use Rattle.std.specs.Prelude.{slice_get, IsPermutation}
use Rattle.std.specs.declared.cmp.Ordering.{Ordering}
use Rattle.std.specs.declared.cmp.Ordering.TheVariants.{Less, Equal, Greater}
use Rattle.std.specs.Ordering.{is_le, nat_cmp, ordering_reverse}
use Rattle.std.specs.Cmp.{nat_cmp_total}
use Rattle.std.specs.Cmp.Lexicographic.{slice_cmp, lists_total}
use Rattle.std.proofs.lemmas.List.Sorted.{IsPermutation-refl, IsPermutation-sym, IsPermutation-cons, IsPermutation-trans, IsPermutation-middle}
use Rattle.base_lemmas.proofs.BaseLemmas.{same, second_false}
use Rattle.place_model.proofs.SpanLemmas.{lt-false}
use Rattle.place_model.specs.Assignment.{Kept, order_number, may_precede, put_in, in_order}
use Rattle.place_model.specs.Laws.{OrderLaw}

put_same : (k : Kept) (ls : List Kept) → IsPermutation (k ∷ ls) (put_in k ls)
put_same k [] = IsPermutation-refl (k ∷ [])
put_same k (l ∷ ls) = go (may_precede k l) (put_same k ls)
  where
    go : (b : Bool) → IsPermutation (k ∷ ls) (put_in k ls) → IsPermutation (k ∷ l ∷ ls) (if b then k ∷ l ∷ ls else l ∷ put_in k ls)
    go true rest = IsPermutation-refl (k ∷ l ∷ ls)
    go false rest =
        IsPermutation-trans (k ∷ l ∷ ls) (l ∷ k ∷ ls) (l ∷ put_in k ls) (IsPermutation-sym (l ∷ k ∷ ls) (k ∷ l ∷ ls) (IsPermutation-middle (l ∷ []) k ls))
        (IsPermutation-cons l (k ∷ ls) (put_in k ls) rest)

order_same : (ks : List Kept) → IsPermutation ks (in_order ks)
order_same [] = IsPermutation-refl []
order_same (k ∷ ks) = IsPermutation-trans (k ∷ ks) (k ∷ in_order ks) (put_in k (in_order ks)) (IsPermutation-cons k ks (in_order ks) (order_same ks)) (put_same k (in_order ks))

-- ---- one of two may precede the other

reversed : (r : Ordering) → is_le r ≡ false → is_le (ordering_reverse r) ≡ true
reversed Less h = absurd cc
reversed Equal h = absurd cc
reversed Greater h = refl

names_either : (xs ys : List ℕ) → is_le (slice_cmp nat_cmp xs ys) ≡ false → is_le (slice_cmp nat_cmp ys xs) ≡ true
names_either xs ys h = ap is_le ((lists_total nat_cmp_total).antisymm ys xs) ∙ reversed (slice_cmp nat_cmp xs ys) h

numbers_either : (a b : ℕ) (p q : Bool) → (p ≡ false → q ≡ true) → (if nat_lt a b then true else a == b && p) ≡ false → (if nat_lt b a then true else b == a && q) ≡ true
numbers_either a b p q f h = go (nat_lt a b) (nat_lt b a) refl refl h
  where
    go : (c d : Bool) → nat_lt a b ≡ c → nat_lt b a ≡ d → (if c then true else a == b && p) ≡ false → (if d then true else b == a && q) ≡ true
    go true d e g n = absurd cc
    go false true e g n = refl
    go false false e g n =
        let low = lt-false a b e in let high = lt-false b a g in
        let one : (a == b) ≡ true = eq-eqb a b (omega arith) in
        let other : (b == a) ≡ true = eq-eqb b a (omega arith) in
        rw other (f (second_false (a == b) p one n))

either : (k l : Kept) → may_precede k l ≡ false → may_precede l k ≡ true
either k l h =
    numbers_either (order_number k) (order_number l) (is_le (slice_cmp nat_cmp k.item.name l.item.name)) (is_le (slice_cmp nat_cmp l.item.name k.item.name)) (names_either k.item.name l.item.name) h

-- ---- each may precede the next

abbrev Sorted : List Kept → Type 0
Sorted ks = (i : ℕ) (k l : Kept) → slice_get ks i ≡ Some k → slice_get ks (suc i) ≡ Some l → may_precede k l ≡ true

sorted_cons : (k l : Kept) (ls : List Kept) → may_precede k l ≡ true → Sorted (l ∷ ls) → Sorted (k ∷ l ∷ ls)
sorted_cons k l ls h s zero x y at next = let e : k ≡ x = same k x at in let f : l ≡ y = same l y next in rw (← e, ← f) h
sorted_cons k l ls h s (suc i) x y at next = s i x y at next

sorted_one : (k : Kept) → Sorted (k ∷ [])
sorted_one k zero x y at next = absurd cc
sorted_one k (suc i) x y at next = absurd cc

-- put in behind an item that may precede both
sorted_behind : (l k : Kept) (ls : List Kept) → may_precede l k ≡ true → Sorted (l ∷ ls) → Sorted (put_in k ls) → Sorted (l ∷ put_in k ls)
sorted_behind l k [] h s p = sorted_cons l k [] h (sorted_one k)
sorted_behind l k (m ∷ ls) h s p = go (may_precede k m) p
  where
    go : (b : Bool) → Sorted (if b then k ∷ m ∷ ls else m ∷ put_in k ls) → Sorted (l ∷ (if b then k ∷ m ∷ ls else m ∷ put_in k ls))
    go true q = sorted_cons l k (m ∷ ls) h q
    go false q = sorted_cons l m (put_in k ls) (s 0 l m refl refl) q

put_sorted : (k : Kept) (ls : List Kept) → Sorted ls → Sorted (put_in k ls)
put_sorted k [] s = sorted_one k
put_sorted k (l ∷ ls) s = go (may_precede k l) refl (put_sorted k ls (λ i x y at next. s (suc i) x y at next))
  where
    go : (b : Bool) → may_precede k l ≡ b → Sorted (put_in k ls) → Sorted (if b then k ∷ l ∷ ls else l ∷ put_in k ls)
    go true e rest = sorted_cons k l ls e s
    go false e rest = sorted_behind l k ls (either k l e) s rest

order_sorted : (ks : List Kept) → Sorted (in_order ks)
order_sorted [] = λ i k l at next. absurd cc
order_sorted (k ∷ ks) = put_sorted k (in_order ks) (order_sorted ks)

pub order_law : OrderLaw
order_law = record { same = order_same; sorted = order_sorted }
