-- Lists: a list that grows at its end, an item that is replaced, and how often a number stands in one.
use Rattle.std.proofs.Common.{◌≡◌, ◌≢◌, ℕ, zero, suc, ◌+◌, ◌<◌, Bool, true, false, cond, true≢false, ◌||◌, ◌==◌, List, [], ◌∷◌, ◌++◌, set, Some, refl, sym, ap, subst, inl, inr, arith}
use Rattle.std.specs.Prelude.{◌⊎◌, slice_get}
use Rattle.std.specs.List.{AllByRecursion, sum_by}
use Rattle.std.proofs.lemmas.Bool.{eqb-true}
use Rattle.std.proofs.lemmas.List.Sums.{sum_by-cons}
use Rattle.asm_names.specs.Order.{is_in, times}

pub all_get : {X : Type 0} (P : X → Type 0) (xs : List X) (i : ℕ) (x : X) → AllByRecursion P xs → slice_get xs i ≡ Some x → P x
all_get P [] i x a h = absurd (cc)
all_get P (y ∷ ys) zero x a h = let e : y ≡ x = cc in subst P e a.0
all_get P (y ∷ ys) (suc i) x a h = all_get P ys i x a.1 h

-- an item of a list of which one was replaced
pub get_set : {X : Type 0} (xs : List X) (k j : ℕ) (y x : X) → slice_get (set xs k y) j ≡ Some x → ((j ≡ k) × (y ≡ x)) ⊎ ((j ≢ k) × (slice_get xs j ≡ Some x))
get_set [] k j y x h = absurd (cc)
get_set (z ∷ zs) zero zero y x h = inl (refl, cc)
get_set (z ∷ zs) zero (suc j) y x h = inr ((λ e. absurd (omega (arith, e))), h)
get_set (z ∷ zs) (suc k) zero y x h = inr ((λ e. absurd (omega (arith, e))), h)
get_set (z ∷ zs) (suc k) (suc j) y x h = by (get_set zs k j y x h)
  where
    by : ((j ≡ k) × (y ≡ x)) ⊎ ((j ≢ k) × (slice_get zs j ≡ Some x)) → ((suc j ≡ suc k) × (y ≡ x)) ⊎ ((suc j ≢ suc k) × (slice_get zs j ≡ Some x))
    by (inl e) = inl (ap suc e.0, e.1)
    by (inr e) = inr ((λ t. e.0 (omega (arith, t))), e.1)

-- the ways in which a list that ends with an item is cut before one
pub record IsBefore {X : Type 0} (xs front : List X) (i : X) : Type 0 where
  pub behind : List X
  pub is : xs ≡ front ++ i ∷ behind

pub cut_last : {X : Type 0} (xs front : List X) (x i : X) (rest : List X) → xs ++ x ∷ [] ≡ front ++ i ∷ rest → ((front ≡ xs) × (i ≡ x)) ⊎ IsBefore xs front i
cut_last [] [] x i rest h = inl (refl, cc)
cut_last [] (f ∷ []) x i rest h = absurd (cc)
cut_last [] (f ∷ g ∷ fs) x i rest h = absurd (cc)
cut_last (y ∷ ys) [] x i rest h = inr (let e : y ≡ i = cc in record { behind = ys; is = ap (λ (z : _). z ∷ ys) e })
cut_last (y ∷ ys) (f ∷ fs) x i rest h = by (cut_last ys fs x i rest (cc)) (cc)
  where
    by : ((fs ≡ ys) × (i ≡ x)) ⊎ IsBefore ys fs i → y ≡ f → ((f ∷ fs ≡ y ∷ ys) × (i ≡ x)) ⊎ IsBefore (y ∷ ys) (f ∷ fs) i
    by (inl e) t = inl (let a = e.0 in cc, e.1)
    by (inr c) t = inr (let a = c.is in record { behind = c.behind; is = cc })

-- ---- how often

pub times_in_it : (i : ℕ) (is : List ℕ) → is_in i is ≡ true → 0 < times i is
times_in_it i [] h = absurd (true≢false (sym h))
times_in_it i (j ∷ js) h = let s = sum_by-cons (λ (k : ℕ). cond (k == i) 1 0) j js in by (j == i) (λ e. times_in_it i js e) h s
  where
    by : (b : Bool) → (is_in i js ≡ true → 0 < times i js) → (b || is_in i js) ≡ true → times i (j ∷ js) ≡ cond b 1 0 + times i js → 0 < times i (j ∷ js)
    by true rest e s = omega arith
    by false rest e s = let r = rest e in omega arith

pub in_it : (i : ℕ) (is : List ℕ) → is_in i is ≡ false → times i is ≡ 0
in_it i [] h = refl
in_it i (j ∷ js) h = let s = sum_by-cons (λ (k : ℕ). cond (k == i) 1 0) j js in by (j == i) (λ e. in_it i js e) h s
  where
    by : (b : Bool) → (is_in i js ≡ false → times i js ≡ 0) → (b || is_in i js) ≡ false → times i (j ∷ js) ≡ cond b 1 0 + times i js → times i (j ∷ js) ≡ 0
    by true rest e s = absurd (true≢false e)
    by false rest e s = let r = rest e in omega arith

pub cut_at : (i : ℕ) (is : List ℕ) → is_in i is ≡ true → (front : List ℕ) × (rest : List ℕ) × (is ≡ front ++ i ∷ rest)
cut_at i [] h = absurd (true≢false (sym h))
cut_at i (j ∷ js) h = by (j == i) refl (λ e. cut_at i js e) h
  where
    later : ((front : List ℕ) × (rest : List ℕ) × (js ≡ front ++ i ∷ rest)) → (front : List ℕ) × (rest : List ℕ) × (j ∷ js ≡ front ++ i ∷ rest)
    later c = (j ∷ c.0, c.1, ap (λ (l : List ℕ). j ∷ l) c.2)

    by : (b : Bool) → (j == i) ≡ b → (is_in i js ≡ true → (front : List ℕ) × (rest : List ℕ) × (js ≡ front ++ i ∷ rest)) → (b || is_in i js) ≡ true
        → (front : List ℕ) × (rest : List ℕ) × (j ∷ js ≡ front ++ i ∷ rest)
    by true t rest e = ([], js, ap (λ (k : ℕ). k ∷ js) (eqb-true j i t))
    by false t rest e = later (rest e)

-- one of a sum's terms is not 0
pub sum_some : {X : Type 0} (f : X → ℕ) (xs : List X) → 0 < sum_by f xs → (k : ℕ) × (x : X) × (slice_get xs k ≡ Some x) × (0 < f x)
sum_some f [] h = absurd (omega (arith, h))
sum_some f (x ∷ xs) h = let s = sum_by-cons f x xs in by (f x) refl (λ e. sum_some f xs e) s
  where
    by : (n : ℕ) → f x ≡ n → (0 < sum_by f xs → (k : ℕ) × (y : _) × (slice_get xs k ≡ Some y) × (0 < f y)) → sum_by f (x ∷ xs) ≡ f x + sum_by f xs
        → (k : ℕ) × (y : _) × (slice_get (x ∷ xs) k ≡ Some y) × (0 < f y)
    by zero e rest s = let r = rest (omega arith) in (suc r.0, r.1, r.2, r.3)
    by (suc n) e rest s = (0, x, refl, omega arith)
