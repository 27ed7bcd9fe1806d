-- Lists that are put together in two ways.
use Rattle.std.proofs.Common.{◌≡◌, List, [], ◌∷◌, ap}

pub rest_of : {A : Type 0} → List A → List A
rest_of [] = []
rest_of (x ∷ xs) = xs

pub first_or : {A : Type 0} → A → List A → A
first_or y [] = y
first_or y (x ∷ xs) = x

pub same_first : {A : Type 0} → (x y : A) (xs ys : List A) → x ∷ xs ≡ y ∷ ys → x ≡ y
unfolding first_or
same_first x y xs ys e = ap (first_or x) e

pub same_rest : {A : Type 0} → (x y : A) (xs ys : List A) → x ∷ xs ≡ y ∷ ys → xs ≡ ys
unfolding rest_of
same_rest x y xs ys e = ap rest_of e
