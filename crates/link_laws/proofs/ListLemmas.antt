-- Lemmas on what is in a list, and on the first item that passes a test.
use Rattle.std.proofs.Common.{◌≡◌, ℕ, zero, suc, ◌+◌, Bool, true, false, cond, ◌||◌, List, [], ◌∷◌, ◌++◌, length, map, refl, sym, ap, subst, ◌∙◌, Option, Some, None}
use Rattle.std.specs.Prelude.{slice_get}
use Rattle.std.specs.List.{filter, filter_map, flat_map, find, list_any, cons_option, AllByRecursion}
use Rattle.std.specs.Option.{option_map}
use Rattle.std.proofs.lemmas.Option.{slice_get-map}
use Rattle.base_lemmas.proofs.BaseLemmas.{get_back, neither, true_or, or_true}
use Rattle.chunk_file.specs.Reading.{EachStands}
use Rattle.link_model.specs.Veneers.{IsIn}

pub in_later : {X : Type 0} (x : X) (xs : List X) (y : X) → IsIn xs y → IsIn (x ∷ xs) y
in_later x xs y h = (suc h.0, h.1)

pub in_front : {X : Type 0} (xs ys : List X) (y : X) → IsIn xs y → IsIn (xs ++ ys) y
in_front [] ys y h = absurd cc
in_front (x ∷ xs) ys y (zero, e) = (zero, e)
in_front (x ∷ xs) ys y (suc i, e) = in_later x (xs ++ ys) y (in_front xs ys y (i, e))

pub in_back : {X : Type 0} (xs ys : List X) (y : X) → IsIn ys y → IsIn (xs ++ ys) y
in_back xs ys y h = (length xs + h.0, get_back xs ys h.0 ∙ h.1)

pub in_map : {X Y : Type 0} (f : X → Y) (xs : List X) (x : X) → IsIn xs x → IsIn (map f xs) (f x)
in_map f xs x h = (h.0, slice_get-map f xs h.0 ∙ ap (option_map f) h.1)

pub in_filter : {X : Type 0} (test : X → Bool) (xs : List X) (x : X) → test x ≡ true → IsIn xs x → IsIn (filter test xs) x
in_filter test [] x passes h = absurd cc
in_filter test (y ∷ ys) x passes (zero, e) =
    let same : y ≡ x = cc in
    let t : test y ≡ true = ap test same ∙ passes in
    rw t (zero, e)
in_filter {X} test (y ∷ ys) x passes (suc i, e) = go (test y) (in_filter test ys x passes (i, e))
  where
    go : (b : Bool) → IsIn (filter test ys) x → IsIn (cond b (y ∷ filter test ys) (filter test ys)) x
    go true rest = in_later y (filter test ys) x rest
    go false rest = rest

pub in_filter_map : {X Y : Type 0} (f : X → Option Y) (xs : List X) (x : X) (y : Y) → f x ≡ Some y → IsIn xs x → IsIn (filter_map f xs) y
in_filter_map f [] x y gives h = absurd cc
in_filter_map f (z ∷ zs) x y gives (zero, e) =
    let same : z ≡ x = cc in
    let t : f z ≡ Some y = ap f same ∙ gives in
    rw t (zero, refl)
in_filter_map {X} {Y} f (z ∷ zs) x y gives (suc i, e) = go (f z) (in_filter_map f zs x y gives (i, e))
  where
    go : (o : Option Y) → IsIn (filter_map f zs) y → IsIn (cons_option o (filter_map f zs)) y
    go (Some v) rest = in_later v (filter_map f zs) y rest
    go None rest = rest

pub any_in : {X : Type 0} (test : X → Bool) (xs : List X) (x : X) → test x ≡ true → IsIn xs x → list_any test xs ≡ true
any_in test [] x passes h = absurd cc
any_in test (y ∷ ys) x passes (zero, e) =
    let same : y ≡ x = cc in
    true_or (test y) (list_any test ys) (ap test same ∙ passes)
any_in test (y ∷ ys) x passes (suc i, e) = or_true (test y) (list_any test ys) (any_in test ys x passes (i, e))

-- ---- the first that passes

pub found_all : {X : Type 0} (P : X → Type 0) (test : X → Bool) (xs : List X) (x : X) → AllByRecursion P xs → find test xs ≡ Some x → P x × (test x ≡ true)
found_all P test [] x all h = absurd cc
found_all {X} P test (y ∷ ys) x all h = go (test y) refl h (found_all P test ys x all.1)
  where
    go : (b : Bool) → test y ≡ b → cond b (Some y) (find test ys) ≡ Some x → (find test ys ≡ Some x → P x × (test x ≡ true)) → P x × (test x ≡ true)
    go true e found rest = let same : y ≡ x = cc in (subst P same all.0, ap test (sym same) ∙ e)
    go false e found rest = rest found

pub found_front : {X : Type 0} (test : X → Bool) (xs ys : List X) → list_any test xs ≡ true → (x : X) × (find test xs ≡ Some x) × (find test (xs ++ ys) ≡ Some x)
found_front test [] ys h = absurd cc
found_front {X} test (y ∷ xs) ys h = go (test y) refl h (found_front test xs ys)
  where
    go : (b : Bool) → test y ≡ b → (b || list_any test xs) ≡ true → (list_any test xs ≡ true → (x : X) × (find test xs ≡ Some x) × (find test (xs ++ ys) ≡ Some x))
        → (x : X) × (cond b (Some y) (find test xs) ≡ Some x) × (cond b (Some y) (find test (xs ++ ys)) ≡ Some x)
    go true e some rest = (y, refl, refl)
    go false e some rest = rest some

found_behind : {X : Type 0} (test : X → Bool) (xs ys : List X) → list_any test xs ≡ false → find test (xs ++ ys) ≡ find test ys
found_behind test [] ys h = refl
found_behind test (x ∷ xs) ys h = let (here, later) = neither (test x) (list_any test xs) h in rw here (found_behind test xs ys later)

-- in lists one behind the other: the first of the first list that has one
pub record IsFirstOf {X Y : Type 0} (test : Y → Bool) (f : X → List Y) (xs : List X) : Type 0 where
  pub owner : X
  pub item : Y
  pub owns : find (λ x. list_any test (f x)) xs ≡ Some owner
  pub there : find test (f owner) ≡ Some item
  pub first : find test (flat_map f xs) ≡ Some item

pub first_of : {X Y : Type 0} (test : Y → Bool) (f : X → List Y) (xs : List X) (x : X) → list_any test (f x) ≡ true → IsIn xs x → IsFirstOf test f xs
first_of test f [] x some h = absurd cc
first_of {X} {Y} test f (z ∷ zs) x some h = go (list_any test (f z)) refl h (first_of test f zs x some)
  where
    go : (b : Bool) → list_any test (f z) ≡ b → IsIn (z ∷ zs) x → (IsIn zs x → IsFirstOf test f zs) → IsFirstOf test f (z ∷ zs)
    go true e h later =
        let (y, here, all) = found_front test (f z) (flat_map f zs) e in
        let own : find (λ q. list_any test (f q)) (z ∷ zs) ≡ Some z = rw e refl in
        record { owner = z; item = y; owns = own; there = here; first = all }
    go false e (zero, at) later = let same : z ≡ x = cc in let no : false ≡ true = sym e ∙ ap (λ q. list_any test (f q)) same ∙ some in absurd cc
    go false e (suc i, at) later =
        let rest = later (i, at) in
        let own : find (λ q. list_any test (f q)) (z ∷ zs) ≡ Some rest.owner = rw e (rest.owns) in
        record { owner = rest.owner; item = rest.item; owns = own; there = rest.there; first = found_behind test (f z) (flat_map f zs) e ∙ rest.first }

-- ---- a relation to the items before

pub each_at : {X : Type 0} (stands : List X → X → Type 0) (before xs : List X) (i : ℕ) (x : X) → EachStands stands before xs → slice_get xs i ≡ Some x
    → (front : List X) × stands front x
each_at stands before [] i x all h = absurd cc
each_at {X} stands before (y ∷ ys) zero x all h = let same : y ≡ x = cc in (before, subst (λ (z : X). stands before z) same all.0)
each_at stands before (y ∷ ys) (suc i) x all h = each_at stands (before ++ y ∷ []) ys i x all.1 h
