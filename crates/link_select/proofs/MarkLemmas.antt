-- One more mark, and several.
use Rattle.std.proofs.Common.{◌≡◌, ℕ, zero, suc, ◌+◌, ◌<◌, Bool, true, false, ◌||◌, true≢false, length, List, [], ◌∷◌, ◌++◌, refl, sym, ap, ◌∙◌, subst, set, inl, inr, arith, length-append, append_assoc, append-nil}
use Rattle.std.specs.Prelude.{◌⊎◌, ◌==◌}
use Rattle.std.proofs.lemmas.List.{get_or-set_same, length-set}
use Rattle.std.proofs.lemmas.Bool.{eqb-true, eq-eqb}
use Rattle.std.proofs.lemmas.List.Folds.{list_any-append}
use Rattle.link_model.specs.Chosen.{HasAll}
use Rattle.link_select.specs.Search.{marked, unmarked, is_in, Marks, Takes}
use Rattle.base_lemmas.proofs.BaseLemmas.{all_append, all_weaker, or_either, true_or as or_left, or_true as or_right}

-- ---- membership

pub is_in_front : (k : ℕ) (xs ys : List ℕ) → is_in k xs ≡ true → is_in k (xs ++ ys) ≡ true
is_in_front k xs ys h = list_any-append (λ j. j == k) xs ys ∙ or_left (is_in k xs) (is_in k ys) h

pub is_in_back : (k : ℕ) (xs ys : List ℕ) → is_in k ys ≡ true → is_in k (xs ++ ys) ≡ true
is_in_back k xs ys h = list_any-append (λ j. j == k) xs ys ∙ or_right (is_in k xs) (is_in k ys) h

pub is_in_either : (k : ℕ) (xs ys : List ℕ) → is_in k (xs ++ ys) ≡ true → (is_in k xs ≡ true) ⊎ (is_in k ys ≡ true)
is_in_either k xs ys h = or_either (is_in k xs) (is_in k ys) (sym (list_any-append (λ j. j == k) xs ys) ∙ h)

pub is_itself : (k : ℕ) → is_in k (k ∷ []) ≡ true
is_itself k = or_left (k == k) false (eq-eqb k k refl)

pub is_the_one : (k i : ℕ) → is_in k (i ∷ []) ≡ true → i ≡ k
is_the_one k i h = eqb-true i k (only (i == k) h)
  where
    only : (b : Bool) → (b || false) ≡ true → b ≡ true
    only true h = refl
    only false h = h

pub has_one : (chosen : ℕ → Bool) (k : ℕ) (ks : List ℕ) → is_in k ks ≡ true → HasAll chosen ks → chosen k ≡ true
has_one chosen k [] h a = absurd (true≢false (sym h))
has_one chosen k (j ∷ js) h a = by (or_either (j == k) (is_in k js) h) (λ e. has_one chosen k js e a.1)
  where
    by : ((j == k) ≡ true) ⊎ (is_in k js ≡ true) → (is_in k js ≡ true → chosen k ≡ true) → chosen k ≡ true
    by (inl e) rest = subst (λ (n : ℕ). chosen n ≡ true) (eqb-true j k e) a.0
    by (inr e) rest = rest e

-- ---- one mark

pub marked_within : (m : List Bool) (k : ℕ) → marked m k ≡ true → k < length m
marked_within [] k h = absurd (true≢false (sym h))
marked_within (b ∷ bs) zero h = omega arith
marked_within (b ∷ bs) (suc k) h = let r = marked_within bs k h in omega arith

set_kept : (m : List Bool) (k j : ℕ) → marked m j ≡ true → marked (set m k true) j ≡ true
set_kept [] k j h = h
set_kept (b ∷ bs) zero zero h = refl
set_kept (b ∷ bs) zero (suc j) h = h
set_kept (b ∷ bs) (suc k) zero h = h
set_kept (b ∷ bs) (suc k) (suc j) h = set_kept bs k j h

set_only : (m : List Bool) (k j : ℕ) → marked (set m k true) j ≡ true → (marked m j ≡ true) ⊎ (k ≡ j)
set_only [] k j h = inl h
set_only (b ∷ bs) zero zero h = inr refl
set_only (b ∷ bs) zero (suc j) h = inl h
set_only (b ∷ bs) (suc k) zero h = inl h
set_only (b ∷ bs) (suc k) (suc j) h = by (set_only bs k j h)
  where
    by : (marked bs j ≡ true) ⊎ (k ≡ j) → (marked bs j ≡ true) ⊎ (suc k ≡ suc j)
    by (inl e) = inl e
    by (inr e) = inr (ap suc e)

set_fewer : (m : List Bool) (k : ℕ) → k < length m → marked m k ≡ false → unmarked (set m k true) + 1 ≡ unmarked m
set_fewer [] k h f = absurd (omega arith)
set_fewer (true ∷ bs) zero h f = absurd (true≢false f)
set_fewer (false ∷ bs) zero h f = omega arith
set_fewer (b ∷ bs) (suc k) h f = let r = set_fewer bs k (omega arith) f in omega arith

pub marks_new : (m : List Bool) (k : ℕ) → k < length m → marked m k ≡ false → Marks m (set m k true) (k ∷ []) (k ∷ [])
marks_new m k h f = record {
  size = length-set m k true;
  kept = λ j e. set_kept m k j e;
  all = (get_or-set_same m k true false h, tt);
  only = λ j e. one j (set_only m k j e);
  waits = λ j e. one j (set_only m k j e);
  added_marked = (get_or-set_same m k true false h, tt);
  fewer = let r = set_fewer m k h f in omega arith;
}
  where
    one : (j : ℕ) → (marked m j ≡ true) ⊎ (k ≡ j) → (marked m j ≡ true) ⊎ (is_in j (k ∷ []) ≡ true)
    one j (inl e) = inl e
    one j (inr e) = inr (subst (λ (n : ℕ). is_in n (k ∷ []) ≡ true) e (is_itself k))

-- ---- no marks, and marks and then more

pub takes_none : (m : List Bool) (w : List ℕ) → Takes m m w w []
takes_none m w = record {
  added = [];
  behind = sym (append-nil w);
  marks = record {
    size = refl;
    kept = λ k h. h;
    all = tt;
    only = λ k h. inl h;
    waits = λ k h. inl h;
    added_marked = tt;
    fewer = omega arith;
  };
}

pub marks_both : (a b c : List Bool) (x y w v : List ℕ) → Marks a b x w → Marks b c y v → Marks a c (x ++ y) (w ++ v)
marks_both a b c x y w v p q = record {
  size = q.size ∙ p.size;
  kept = λ k h. q.kept k (p.kept k h);
  all = all_append (λ k. marked c k ≡ true) w v (all_weaker (λ k. marked b k ≡ true) (λ k. marked c k ≡ true) q.kept w p.all) q.all;
  only = λ k h. joined k w v (λ e. p.only k e) (q.only k h);
  waits = λ k h. joined k x y (λ e. p.waits k e) (q.waits k h);
  added_marked = all_append (λ k. marked c k ≡ true) x y (all_weaker (λ k. marked b k ≡ true) (λ k. marked c k ≡ true) q.kept x p.added_marked) q.added_marked;
  fewer = let n = length-append x y in let r = p.fewer in let s = q.fewer in omega arith;
}
  where
    early : (k : ℕ) (xs ys : List ℕ) → (marked a k ≡ true) ⊎ (is_in k xs ≡ true) → (marked a k ≡ true) ⊎ (is_in k (xs ++ ys) ≡ true)
    early k xs ys (inl e) = inl e
    early k xs ys (inr e) = inr (is_in_front k xs ys e)

    joined : (k : ℕ) (xs ys : List ℕ) → (marked b k ≡ true → (marked a k ≡ true) ⊎ (is_in k xs ≡ true)) → (marked b k ≡ true) ⊎ (is_in k ys ≡ true) → (marked a k ≡ true) ⊎ (is_in k (xs ++ ys) ≡ true)
    joined k xs ys before (inl e) = early k xs ys (before e)
    joined k xs ys before (inr e) = inr (is_in_back k xs ys e)

pub takes_both : (a b c : List Bool) (x y z w v : List ℕ) → Takes a b x y w → Takes b c y z v → Takes a c x z (w ++ v)
takes_both a b c x y z w v p q = record {
  added = p.added ++ q.added;
  behind = q.behind ∙ ap (λ (l : List ℕ). l ++ q.added) p.behind ∙ append_assoc x p.added q.added;
  marks = marks_both a b c p.added q.added w v p.marks q.marks;
}
