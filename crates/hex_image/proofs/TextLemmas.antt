-- A written line is one line of the text, and isn't blank, and its digits are read as its bytes.
use Rattle.std.proofs.Common.{◌≡◌, ◌∙◌, ℕ, zero, suc, ◌-◌, ◌/◌, ◌%◌, ◌<◌, ◌≤◌, List, [], ◌∷◌, ◌++◌, length, Bool, true, false, cond, ◌==◌, ◌&&◌, ◌||◌, Option, None, Some, refl, ap, arith}
use Rattle.std.specs.Prelude.{slice_index}
use Rattle.std.specs.List.{AllByRecursion, onto_first, slice_split}
use Rattle.std.specs.Str.Lines.{lines, lines_of_parts, strip_carriage_return}
use Rattle.std.proofs.lemmas.Bool.{ne_eqb, cond-false}
use Rattle.hex.specs.Hex.{IsBytes, encode_upper, encode_with, hex_digit_value, upper_digits}
use Rattle.hex.proofs.HexLemmas.{IsDigits-upper_digits, decode_of-encode_upper, length-encode_with}
use Rattle.hex_image.specs.Digits.{decoded, digits_in}
use Rattle.hex_image.specs.Reading.{is_blank}
use Rattle.hex_image.proofs.LineLemmas.{behind_first}

-- ---- characters from the digits on

abbrev pub AreHigh : List ℕ → Type 0
AreHigh xs = AllByRecursion (λ b. 48 ≤ b) xs

digit_high : (c v : ℕ) → hex_digit_value c ≡ Some v → 48 ≤ c
digit_high c v h = grind (arith)

pub encoded_high : (bytes : List ℕ) → IsBytes bytes → AreHigh (encode_upper bytes)
unfolding encode_with
encoded_high [] h = tt
encoded_high (b ∷ bs) h =
    let fits : b < 256 = h 0 in
    let high : b / 16 < 16 = omega arith in
    let low : b % 16 < 16 = omega arith in (
      digit_high (slice_index upper_digits (b / 16)) (b / 16) (IsDigits-upper_digits (b / 16) high),
      (digit_high (slice_index upper_digits (b % 16)) (b % 16) (IsDigits-upper_digits (b % 16) low), encoded_high bs (λ i. h (suc i))),
    )

-- ---- lines

split_line : (x rest : List ℕ) → AreHigh x → slice_split (λ b. b == 10) (x ++ 10 ∷ rest) ≡ x ∷ slice_split (λ b. b == 10) rest
split_line [] rest h = refl
split_line (b ∷ bs) rest h =
    let other : (b == 10) ≡ false = ne_eqb b 10 (λ e. omega (arith, h.0, e)) in
    cond-false (b == 10) ([] ∷ slice_split (λ b. b == 10) (bs ++ 10 ∷ rest)) (onto_first b (slice_split (λ b. b == 10) (bs ++ 10 ∷ rest))) other
    ∙ ap (onto_first b) (split_line bs rest h.1)

at_high : (x : List ℕ) (i : ℕ) → AreHigh x → i < length x → 48 ≤ slice_index x i
at_high [] i h lt = absurd (omega arith)
at_high (b ∷ bs) zero h lt = h.0
at_high (b ∷ bs) (suc i) h lt = at_high bs i h.1 (omega arith)

no_return : (x : List ℕ) → AreHigh x → strip_carriage_return x ≡ x
no_return [] h = refl
no_return (b ∷ bs) h =
    let k = at_high (b ∷ bs) (length (b ∷ bs) - 1) h (omega arith) in
    cond-false (slice_index (b ∷ bs) (length (b ∷ bs) - 1) == 13) _ (b ∷ bs) (ne_eqb (slice_index (b ∷ bs) (length (b ∷ bs) - 1)) 13 (λ e. omega (arith, k, e)))

pub first_of : (x rest : List ℕ) → AreHigh x → lines (x ++ 10 ∷ rest) ≡ x ∷ lines rest
first_of x rest h =
    ap lines_of_parts (split_line x rest h) ∙ behind_first x (λ b. b == 10) rest
    ∙ ap (λ (y : List ℕ). y ∷ lines rest) (no_return x h)

blank_by : (s t rest : Bool) → s ≡ false → t ≡ false → ((s || t) && rest) ≡ false
blank_by true t rest e f = absurd (cc)
blank_by false true rest e f = absurd (cc)
blank_by false false rest e f = refl

pub not_blank : (b : ℕ) (bs : List ℕ) → 48 ≤ b → is_blank (b ∷ bs) ≡ false
not_blank b bs h =
    let space : (b == 32) ≡ false = ne_eqb b 32 (λ e. omega (arith, h, e)) in
    let tab : (b == 9) ≡ false = ne_eqb b 9 (λ e. omega (arith, h, e)) in
    blank_by (b == 32) (b == 9) (is_blank bs) space tab

-- ---- digits

some_digits : (n : ℕ) (o : Option (List ℕ)) → 1 ≤ n → cond (n == 0) (None) o ≡ o
some_digits n o h = cond-false (n == 0) None o (ne_eqb n 0 (λ e. omega (arith, h, e)))

pub digits_of : (b : ℕ) (bs : List ℕ) → IsBytes (b ∷ bs) → digits_in (encode_upper (b ∷ bs)) ≡ Some (b ∷ bs)
digits_of b bs h =
    let len = length-encode_with upper_digits (b ∷ bs) in
    let some : 1 ≤ length (encode_upper (b ∷ bs)) = omega (arith, len) in
    some_digits (length (encode_upper (b ∷ bs))) _ some ∙ ap decoded (decode_of-encode_upper (b ∷ bs) h)
