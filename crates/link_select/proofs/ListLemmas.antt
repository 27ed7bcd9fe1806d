-- What holds of each item of a list.
use Rattle.std.proofs.Common.{◌≡◌, ℕ, zero, suc, ◌<◌, length, List, [], ◌∷◌, ◌++◌, Option, Some, None, refl, sym, ap, ◌∙◌, get_or, drop, take, arith, ◌+◌, append_assoc, append-nil}
use Rattle.std.specs.Prelude.{slice_get}
use Rattle.std.specs.List.{cons_option, flat_map, filter_map}
use Rattle.std.specs.Option.{option_to_list}
use Rattle.std.proofs.lemmas.Grind.{flat_map-append}
use Rattle.std.proofs.lemmas.Option.{slice_get-get_or}

-- a list from a place on
pub drop_at : {X : Type 0} (xs : List X) (i : ℕ) (x : X) → slice_get xs i ≡ Some x → drop i xs ≡ x ∷ drop (suc i) xs
drop_at [] i x h = absurd (cc)
drop_at (y ∷ ys) zero x h = let e : y ≡ x = cc in ap (λ (z : _). z ∷ ys) e
drop_at (y ∷ ys) (suc i) x h = drop_at ys i x h

pub take_at : {X : Type 0} (xs : List X) (i : ℕ) (x : X) → slice_get xs i ≡ Some x → take (suc i) xs ≡ take i xs ++ x ∷ []
take_at [] i x h = absurd (cc)
take_at (y ∷ ys) zero x h = let e : y ≡ x = cc in ap (λ (z : _). z ∷ []) e
take_at (y ∷ ys) (suc i) x h = ap (λ (zs : List _). y ∷ zs) (take_at ys i x h)

-- ---- a loop's item, at the place of its index

pub get_item : {X : Type 0} (xs : List X) (i : ℕ) (x : X) → i < length xs → x ≡ get_or xs i x → slice_get xs i ≡ Some x
get_item xs i x h e = slice_get-get_or xs i x h ∙ ap Some (sym e)

pub drop_item : {X : Type 0} (xs : List X) (i : ℕ) (x : X) → i < length xs → x ≡ get_or xs i x → drop i xs ≡ x ∷ drop (i + 1) xs
drop_item xs i x h e = let n : suc i ≡ i + 1 = omega arith in drop_at xs i x (get_item xs i x h e) ∙ ap (λ (k : ℕ). x ∷ drop k xs) n

pub take_item : {X : Type 0} (xs : List X) (i : ℕ) (x : X) → i < length xs → x ≡ get_or xs i x → take (i + 1) xs ≡ take i xs ++ x ∷ []
take_item xs i x h e = let n : i + 1 ≡ suc i = omega arith in ap (λ (k : ℕ). take k xs) n ∙ take_at xs i x (get_item xs i x h e)

pub drop_end : {X : Type 0} (xs : List X) → drop (length xs) xs ≡ []
drop_end [] = refl
drop_end (x ∷ xs) = drop_end xs

pub take_number : (xs : List ℕ) (i : ℕ) → i < length xs → take (i + 1) xs ≡ take i xs ++ get_or xs i 0 ∷ []
take_number xs i h = let n : i + 1 ≡ suc i = omega arith in ap (λ (k : ℕ). take k xs) n ∙ take_at xs i (get_or xs i 0) (slice_get-get_or xs i 0 h)

pub some_item : {X : Type 0} (xs : List X) (i : ℕ) → i < length xs → (x : X) × (x ≡ get_or xs i x)
some_item [] i h = absurd (omega arith)
some_item (x ∷ xs) zero h = (x, refl)
some_item (x ∷ xs) (suc i) h = some_item xs i (omega arith)

pub flat_take : {X Y : Type 0} (f : X → List Y) (xs : List X) (i : ℕ) (x : X) → i < length xs → x ≡ get_or xs i x → flat_map f (take (i + 1) xs) ≡ flat_map f (take i xs) ++ f x
flat_take f xs i x h e = ap (flat_map f) (take_item xs i x h e) ∙ flat_map-append f (take i xs) (x ∷ []) ∙ ap (λ (l : List _). flat_map f (take i xs) ++ l) (append-nil (f x))

pub filter_map_step : {X Y : Type 0} (f : X → Option Y) (x : X) (xs : List X) → filter_map f (x ∷ xs) ≡ option_to_list (f x) ++ filter_map f xs
filter_map_step f x xs = by (f x)
  where
    by : (o : Option _) → cons_option o (filter_map f xs) ≡ option_to_list o ++ filter_map f xs
    by None = refl
    by (Some y) = refl

-- ---- a loop that appends what each item gives: what is there, with what the rest gives, is what all give

module _ {X Y : Type 0} (F : ℕ → List X → List Y) where
  pub rest_more : (f : ℕ → X → List Y) → ((i : ℕ) (x : X) (xs : List X) → F i (x ∷ xs) ≡ f i x ++ F (suc i) xs) → (xs : List X) (i : ℕ) (x : X) (before after all : List Y)
      → i < length xs → x ≡ get_or xs i x → after ≡ before ++ f i x → before ++ F i (drop i xs) ≡ all → after ++ F (i + 1) (drop (i + 1) xs) ≡ all
  rest_more f step xs i x before after all h e added known =
      let n : i + 1 ≡ suc i = omega arith in
      ap (λ (l : List Y). l ++ F (i + 1) (drop (i + 1) xs)) added ∙ append_assoc before (f i x) (F (i + 1) (drop (i + 1) xs))
      ∙ ap (λ (k : ℕ). before ++ (f i x ++ F k (drop (i + 1) xs))) n
      ∙ ap (λ (l : List Y). before ++ l) (sym (step i x (drop (i + 1) xs)) ∙ ap (F i) (sym (drop_item xs i x h e))) ∙ known

  pub rest_all : ((i : ℕ) → F i [] ≡ []) → (xs : List X) (i : ℕ) (before all : List Y) → i ≡ length xs → before ++ F i (drop i xs) ≡ all → before ≡ all
  rest_all none xs i before all e known =
      let gone : F i (drop i xs) ≡ [] = ap (λ (k : ℕ). F i (drop k xs)) e ∙ ap (F i) (drop_end xs) ∙ none i in
      sym (append-nil before) ∙ ap (λ (l : List Y). before ++ l) (sym gone) ∙ known
