-- Lemmas on what holds of each item of a list, and of each pair.
use Rattle.std.proofs.Common.{◌≡◌, ℕ, zero, suc, ◌<◌, ◌≤◌, Bool, true, false, cond, ◌||◌, List, [], ◌∷◌, length, map, refl, arith, Option, Some, None}
use Rattle.std.specs.Prelude.{slice_get, unwrap_or, sum_by}
use Rattle.std.specs.List.{filter, filter_map, flat_map, list_any, cons_option, AllByRecursion}
use Rattle.std.proofs.lemmas.List.Sums.{sum_by-cons}
use Rattle.base_lemmas.proofs.BaseLemmas.{all_append, all_front, all_back}

pub all_of_map : {X Y : Type 0} (P : Y → Type 0) (f : X → Y) (xs : List X) → AllByRecursion P (map f xs) → AllByRecursion (λ x. P (f x)) xs
all_of_map P f [] a = tt
all_of_map P f (x ∷ xs) a = (a.0, all_of_map P f xs a.1)

pub all_map : {X Y : Type 0} (P : Y → Type 0) (f : X → Y) (xs : List X) → AllByRecursion (λ x. P (f x)) xs → AllByRecursion P (map f xs)
all_map P f [] a = tt
all_map P f (x ∷ xs) a = (a.0, all_map P f xs a.1)

pub all_filter : {X : Type 0} (P : X → Type 0) (test : X → Bool) (xs : List X) → AllByRecursion P xs → AllByRecursion P (filter test xs)
all_filter {X} P test [] a = tt
all_filter {X} P test (x ∷ xs) a = go (test x) (all_filter P test xs a.1)
  where
    go : (b : Bool) → AllByRecursion P (filter test xs) → AllByRecursion P (cond b (x ∷ filter test xs) (filter test xs))
    go true rest = (a.0, rest)
    go false rest = rest

-- what a function gives
pub all_filter_map : {X Y : Type 0} (P : Y → Type 0) (f : X → Option Y) (xs : List X) → ((x : X) (y : Y) → f x ≡ Some y → P y) → AllByRecursion P (filter_map f xs)
all_filter_map P f [] h = tt
all_filter_map {X} {Y} P f (x ∷ xs) h = go (f x) refl (all_filter_map P f xs h)
  where
    go : (o : Option Y) → f x ≡ o → AllByRecursion P (filter_map f xs) → AllByRecursion P (cons_option o (filter_map f xs))
    go None e rest = rest
    go (Some y) e rest = (h x y e, rest)

pub all_both : {X : Type 0} (P Q : X → Type 0) (xs : List X) → AllByRecursion P xs → AllByRecursion Q xs → AllByRecursion (λ x. P x × Q x) xs
all_both P Q [] a b = tt
all_both P Q (x ∷ xs) a b = ((a.0, b.0), all_both P Q xs a.1 b.1)

pub all_at : {X : Type 0} (P : X → Type 0) (xs : List X) (i : ℕ) (x : X) → AllByRecursion P xs → slice_get xs i ≡ Some x → P x
all_at P [] i x a h = absurd cc
all_at P (y ∷ ys) zero x a h = let same : y ≡ x = cc in rw (← same) a.0
all_at P (y ∷ ys) (suc i) x a h = all_at P ys i x a.1 h

pub all_indexed : {X : Type 0} (P : X → Type 0) (xs : List X) → ((i : ℕ) (x : X) → slice_get xs i ≡ Some x → P x) → AllByRecursion P xs
all_indexed P [] f = tt
all_indexed P (x ∷ xs) f = (f zero x refl, all_indexed P xs (λ i y h. f (suc i) y h))

pub all_of_get : {X : Type 0} (P : X → Type 0) (xs : List X) (i : ℕ) (d : X) → P d → AllByRecursion P xs → P (unwrap_or (slice_get xs i) d)
all_of_get P [] i d h a = h
all_of_get P (x ∷ xs) zero d h a = a.0
all_of_get P (x ∷ xs) (suc i) d h a = all_of_get P xs i d h a.1

-- each item of the lists that a function gives
pub all_of_flat : {X Y : Type 0} (P : Y → Type 0) (f : X → List Y) (xs : List X) → AllByRecursion P (flat_map f xs) → AllByRecursion (λ x. AllByRecursion P (f x)) xs
all_of_flat P f [] a = tt
all_of_flat P f (x ∷ xs) a = (all_front P (f x) (flat_map f xs) a, all_of_flat P f xs (all_back P (f x) (flat_map f xs) a))

pub all_flat : {X Y : Type 0} (P : Y → Type 0) (f : X → List Y) (xs : List X) → AllByRecursion (λ x. AllByRecursion P (f x)) xs → AllByRecursion P (flat_map f xs)
all_flat P f [] a = tt
all_flat P f (x ∷ xs) a = all_append P (f x) (flat_map f xs) a.0 (all_flat P f xs a.1)

-- the first of what a function gives is nothing
pub none_given : {X Y : Type 0} (f : X → Option Y) (xs : List X) → slice_get (filter_map f xs) 0 ≡ None → AllByRecursion (λ x. f x ≡ None) xs
none_given f [] h = tt
none_given {X} {Y} f (x ∷ xs) h = go (f x) refl (none_given f xs) h
  where
    go : (o : Option Y) → f x ≡ o → (slice_get (filter_map f xs) 0 ≡ None → AllByRecursion (λ y. f y ≡ None) xs)
        → slice_get (cons_option o (filter_map f xs)) 0 ≡ None → (f x ≡ None) × AllByRecursion (λ y. f y ≡ None) xs
    go None e rest n = (e, rest n)
    go (Some y) e rest n = absurd cc

-- each item of a sum is at most the sum
pub all_below_sum : {X : Type 0} (f : X → ℕ) (xs : List X) (most : ℕ) → sum_by f xs ≤ most → AllByRecursion (λ x. f x ≤ most) xs
all_below_sum f [] most h = tt
all_below_sum f (x ∷ xs) most h = let all = sum_by-cons f x xs in (omega arith, all_below_sum f xs most (omega arith))

-- an item that passes
pub any_found : {X : Type 0} (test : X → Bool) (xs : List X) → list_any test xs ≡ true → (i : ℕ) × (x : X) × (slice_get xs i ≡ Some x) × (test x ≡ true)
any_found test [] h = absurd cc
any_found {X} test (x ∷ xs) h = go (test x) refl (any_found test xs) h
  where
    go : (b : Bool) → test x ≡ b → (list_any test xs ≡ true → (i : ℕ) × (y : X) × (slice_get xs i ≡ Some y) × (test y ≡ true))
        → (b || list_any test xs) ≡ true → (i : ℕ) × (y : X) × (slice_get (x ∷ xs) i ≡ Some y) × (test y ≡ true)
    go true e rest n = (zero, x, refl, e)
    go false e rest n = let (i, y, at, t) = rest n in (suc i, y, at, t)

-- each item and each later one
abbrev pub Pairs : {X : Type 0} → (X → X → Type 0) → List X → Type 0
Pairs R [] = Unit {0}
Pairs R (x ∷ xs) = AllByRecursion (R x) xs × Pairs R xs

pub pairs_filter : {X : Type 0} (R : X → X → Type 0) (test : X → Bool) (xs : List X) → Pairs R xs → Pairs R (filter test xs)
pairs_filter {X} R test [] a = tt
pairs_filter {X} R test (x ∷ xs) a = go (test x) (pairs_filter R test xs a.1)
  where
    go : (b : Bool) → Pairs R (filter test xs) → Pairs R (cond b (x ∷ filter test xs) (filter test xs))
    go true rest = (all_filter (R x) test xs a.0, rest)
    go false rest = rest

pub pairs_map : {X Y : Type 0} (R : Y → Y → Type 0) (f : X → Y) (xs : List X) → Pairs R (map f xs) → Pairs (λ x y. R (f x) (f y)) xs
pairs_map R f [] a = tt
pairs_map R f (x ∷ xs) a = (all_of_map (R (f x)) f xs a.0, pairs_map R f xs a.1)

pub pairs_indexed : {X : Type 0} (R : X → X → Type 0) (xs : List X) → ((i j : ℕ) (x y : X) → i < j → slice_get xs i ≡ Some x → slice_get xs j ≡ Some y → R x y) → Pairs R xs
pairs_indexed R [] f = tt
pairs_indexed R (x ∷ xs) f = (
  all_indexed (R x) xs (λ j y h. f zero (suc j) x y (omega arith) refl h),
  pairs_indexed R xs (λ i j y z lt h k. f (suc i) (suc j) y z (omega arith) h k),
)

pub pairs_at : {X : Type 0} (R : X → X → Type 0) (xs : List X) (i j : ℕ) (x y : X) → Pairs R xs → i < j → slice_get xs i ≡ Some x → slice_get xs j ≡ Some y → R x y
pairs_at R [] i j x y a lt h k = absurd cc
pairs_at R (z ∷ zs) zero zero x y a lt h k = absurd (omega arith)
pairs_at R (z ∷ zs) zero (suc j) x y a lt h k = let same : z ≡ x = cc in rw (← same) (all_at (R z) zs j y a.0 k)
pairs_at R (z ∷ zs) (suc i) zero x y a lt h k = absurd (omega arith)
pairs_at R (z ∷ zs) (suc i) (suc j) x y a lt h k = pairs_at R zs i j x y a.1 (omega arith) h k

pub length_filter : {X : Type 0} (test : X → Bool) (xs : List X) → length (filter test xs) ≤ length xs
length_filter test [] = omega arith
length_filter {X} test (x ∷ xs) = go (test x) (length_filter test xs)
  where
    go : (b : Bool) → length (filter test xs) ≤ length xs → length (cond b (x ∷ filter test xs) (filter test xs)) ≤ suc (length xs)
    go true h = omega arith
    go false h = omega arith
