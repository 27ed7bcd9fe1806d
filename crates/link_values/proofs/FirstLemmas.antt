-- The first of what is given, one item after the other.
use Rattle.std.proofs.Common.{◌≡◌, List, [], ◌∷◌, ◌++◌, refl, ap}
use Rattle.std.specs.Prelude.{Option, Some, None, slice_get}
use Rattle.std.specs.List.{filter_map, cons_option}

pub first_passed : {A B : Type 0} (f : A → Option B) (x : A) (xs : List A) → f x ≡ None → slice_get (filter_map f (x ∷ xs)) 0 ≡ slice_get (filter_map f xs) 0
first_passed f x xs e = ap (λ o. slice_get (cons_option o (filter_map f xs)) 0) e

pub first_met : {A B : Type 0} (f : A → Option B) (x : A) (xs : List A) (y : B) → f x ≡ Some y → slice_get (filter_map f (x ∷ xs)) 0 ≡ Some y
first_met f x xs y e = ap (λ o. slice_get (cons_option o (filter_map f xs)) 0) e

pub joined_passed : {A : Type 0} (xs ys : List A) → slice_get xs 0 ≡ None → slice_get (xs ++ ys) 0 ≡ slice_get ys 0
joined_passed [] ys e = refl
joined_passed (x ∷ xs) ys e = absurd (cc)

pub joined_met : {A : Type 0} (xs ys : List A) (x : A) → slice_get xs 0 ≡ Some x → slice_get (xs ++ ys) 0 ≡ Some x
joined_met [] ys x e = absurd (cc)
joined_met (y ∷ xs) ys x e = e
