-- The first line of a text.
use Rattle.std.proofs.Common.{◌≡◌, ℕ, ◌+◌, ◌-◌, ◌<◌, ◌≤◌, List, [], ◌∷◌, length, take, drop, Bool, true, false, cond, Option, Some, None, inl, inr, refl, ◌∙◌, ap, arith, ◌==◌, length-drop}
use Rattle.std.specs.Prelude.{position}
use Rattle.std.specs.List.{slice_split, slice_index, position_or_len, before_first, after_first, onto_first}
use Rattle.std.specs.Str.Lines.{lines, lines_of_parts, strip_carriage_return}
use Rattle.std.proofs.lemmas.List.{drop-drop, drop_all, take-take, take_rest}
use Rattle.std.proofs.lemmas.List.Splits.{slice_split_none, slice_split_first}
use Rattle.std.proofs.lemmas.List.Sums.{fails_before_first}
use Rattle.std.proofs.lemmas.Bool.{ltb-true, ltb-false, ne_eqb, cond-false, cases_order}
use Rattle.std.proofs.lemmas.List.Quantifiers.{position-Some}
use Rattle.memchr.specs.Find.{IsFirstByte}

picked : (b : Bool) (n i : ℕ) → cond b (Some n) None ≡ Some i → (b ≡ true) × (n ≡ i)
picked true n i e = (refl, cc)
picked false n i e = absurd (cc)

unpicked : (b : Bool) (n : ℕ) → cond b (Some n) None ≡ None → b ≡ false
unpicked true n e = absurd (cc)
unpicked false n e = refl

onto : (x : ℕ) (parts : List (List ℕ)) → (y : List ℕ) × (more : List (List ℕ)) × (onto_first x parts ≡ y ∷ more)
onto x [] = (x ∷ [], [], refl)
onto x (p ∷ ps) = (x ∷ p, ps, refl)

-- a list has a first part
parts : (p : ℕ → Bool) (xs : List ℕ) → (y : List ℕ) × (more : List (List ℕ)) × (slice_split p xs ≡ y ∷ more)
parts p [] = ([], [], refl)
parts p (x ∷ xs) =
    elim (p x) as (λ b. (y : List ℕ) × (more : List (List ℕ)) × (cond b ([] ∷ slice_split p xs) (onto_first x (slice_split p xs)) ≡ y ∷ more)) [
      | true ↦ ([], slice_split p xs, refl)
      | false ↦ onto x (slice_split p xs)
    ]

behind_first : (x : List ℕ) (p : ℕ → Bool) (xs : List ℕ) → lines_of_parts (x ∷ slice_split p xs) ≡ strip_carriage_return x ∷ lines_of_parts (slice_split p xs)
behind_first x p xs = let r = parts p xs in rw r.2 refl

one_part : (xs : List ℕ) → 0 < length xs → lines_of_parts (xs ∷ []) ≡ xs ∷ []
one_part [] h = absurd (omega arith)
one_part (x ∷ xs) h = cond-false (length (x ∷ xs) == 0) [] ((x ∷ xs) ∷ []) (ne_eqb (length (x ∷ xs)) 0 (λ e. omega arith))

-- where nothing passes, the list is one part
pub split_last : (p : ℕ → Bool) (xs : List ℕ) → position p xs ≡ None → slice_split p xs ≡ xs ∷ []
split_last p xs none =
    let whole : length xs ≤ position_or_len p xs = ltb-false (position_or_len p xs) (length xs) (unpicked _ _ none) in
    slice_split_none p xs (λ k d h. fails_before_first p xs k d (omega arith))

-- what passes ends the first part
pub split_first : (p : ℕ → Bool) (xs : List ℕ) (i : ℕ) → position p xs ≡ Some i → (i < length xs)
    × (slice_split p xs ≡ take i xs ∷ slice_split p (drop (i + 1) xs))
split_first p xs i found =
    let h = picked _ _ _ found in
    let lt : position_or_len p xs < length xs = ltb-true (position_or_len p xs) (length xs) h.0 in
    let e : slice_split p xs ≡ before_first p xs ∷ slice_split p (after_first p xs) = slice_split_first p xs 0 lt in
    (omega arith, rw h.1 at e)

-- where no line feed stands, the text is one line
pub lines_last : (xs : List ℕ) → 0 < length xs → position (λ b. b == 10) xs ≡ None → lines xs ≡ xs ∷ []
lines_last xs some none = rw (split_last (λ b. b == 10) xs none) (one_part xs some)

-- a line feed ends the first line
pub lines_first : (xs : List ℕ) (i : ℕ) → position (λ b. b == 10) xs ≡ Some i → lines xs ≡ strip_carriage_return (take i xs) ∷ lines (drop (i + 1) xs)
lines_first xs i found =
    ap lines_of_parts (split_first (λ b. b == 10) xs i found).1 ∙ behind_first (take i xs) (λ b. b == 10) (drop (i + 1) xs)

-- the same from a place on
pub last_from : (xs : List ℕ) (i : ℕ) → i < length xs → position (λ b. b == 10) (drop i xs) ≡ None
    → lines (drop i xs) ≡ take (length xs - i) (drop i xs) ∷ lines (drop (length xs) xs)
last_from xs i some none =
    rw (take_rest xs i, drop_all (length xs) xs (omega arith)) (lines_last (drop i xs) (simp length-drop (omega arith)) none)

pub first_from : (xs : List ℕ) (i j k : ℕ) → position (λ b. b == 10) (drop i xs) ≡ Some j → k ≤ j
    → take k (take j (drop i xs)) ≡ strip_carriage_return (take j (drop i xs))
    → lines (drop i xs) ≡ take (i + k - i) (drop i xs) ∷ lines (drop (i + j + 1) xs)
first_from xs i j k found le stripped =
    let first = lines_first (drop i xs) j found in
    let width : i + k - i ≡ k = omega arith in
    let place : i + (j + 1) ≡ i + j + 1 = omega arith in
    let behind : drop (j + 1) (drop i xs) ≡ drop (i + j + 1) xs = drop-drop (j + 1) i xs ∙ ap (λ (n : ℕ). drop n xs) place in
    rw (width, ← behind, ← take-take k j (drop i xs) le, stripped) first

-- no line is left at the end
pub no_lines : (xs : List ℕ) (i : ℕ) → length xs ≤ i → lines (drop i xs) ≡ []
no_lines xs i h = rw (drop_all i xs h) refl

-- where there is no first place, the test fails everywhere
fails_all : (p : ℕ → Bool) (xs : List ℕ) → position p xs ≡ None → (k : ℕ) → k < length xs → p (slice_index xs k) ≡ false
fails_all p xs none k h =
    let whole : length xs ≤ position_or_len p xs = ltb-false (position_or_len p xs) (length xs) (unpicked _ _ none) in
    fails_before_first p xs k 0 (omega arith)

-- the first place where a test passes is what `position` gives
pub first_place : (p : ℕ → Bool) (xs : List ℕ) (r : Option ℕ) → IsFirstByte p xs r → r ≡ position p xs
first_place p xs r h = chosen r (position p xs) h refl
  where
    chosen : (r q : Option ℕ) → IsFirstByte p xs r → position p xs ≡ q → r ≡ q
    chosen None None h e = refl
    chosen None (Some i) h e = let s = position-Some p xs i 0 e in absurd (h i (omega arith) s.0 s.1)
    chosen (Some k) None h e = absurd (let f = fails_all p xs e k h.0.high in let t = h.1 in cc)
    chosen (Some k) (Some i) h e =
        let s = position-Some p xs i 0 e in
        elim (cases_order k i) [
          | inl same ↦ ap Some same
          | inr ne ↦ elim ne [
            | inl below ↦ absurd (let f = s.2 k below in let t = h.1 in cc)
            | inr above ↦ absurd (h.0.before i (omega arith) above s.1)
          ]
        ]
