-- The fields that a row's word has are those that it was made of, and the test of fields decides.
use Rattle.std.proofs.Common.{◌≡◌, ℕ, ◌+◌, ◌*◌, ◌/◌, ◌%◌, ◌^◌, ◌<◌, ◌≤◌, Bool, true, false, ◌&&◌, nat_lt, List, [], ◌∷◌, Decides, refl, sym, ap, ◌∙◌, arith, mul-le-mul_right, pow-add, ltb-true}
use Rattle.std.proofs.lemmas.Nat.{div-mul-add, mod-mul-add}
use Rattle.std.proofs.lemmas.Bool.Decides.{Decides-and, Decides-ltb}
use mathlib.Core.Bool.{true≢false}
use Rattle.sdt_word.specs.Numbers.{bits}
use Rattle.sdt_word.specs.Rows.{Blank, Digit, Field, FitsRow, Part, width_of, word_of}
use Rattle.sdt_listing.specs.Readings.{fields_in, fits_row}

-- a row's digits are bits
abbrev pub is_binary : List Part → Bool
is_binary [] = true
is_binary (Digit d ∷ row) = nat_lt d 2 && is_binary row
is_binary (Field letter n ∷ row) = is_binary row
is_binary (Blank ∷ row) = is_binary row

left : (a b : Bool) → a && b ≡ true → a ≡ true
left true b h = refl
left false b h = absurd (true≢false (sym h))

right : (a b : Bool) → a && b ≡ true → b ≡ true
right true b h = h
right false b h = absurd (true≢false (sym h))

word_of-lt : (row : List Part) (xs : List ℕ) → is_binary row ≡ true → FitsRow row xs → word_of row xs < 2 ^ width_of row
word_of-lt [] [] b h = omega arith
word_of-lt [] (x ∷ xs) b h = absurd h
word_of-lt (Digit d ∷ row) xs b h =
    let rest = word_of-lt row xs (right (nat_lt d 2) (is_binary row) b) h in
    let small : d < 2 = ltb-true d 2 (left (nat_lt d 2) (is_binary row) b) in
    let e = pow-add 2 1 (width_of row) in
    let top : (d + 1) * 2 ^ width_of row ≤ 2 * 2 ^ width_of row = mul-le-mul_right (2 ^ width_of row) (omega arith) in
    omega arith
word_of-lt (Field a n ∷ row) [] b h = absurd h
word_of-lt (Field a n ∷ row) (x ∷ xs) b h =
    let rest = word_of-lt row xs b h.1 in
    let e = pow-add 2 n (width_of row) in
    let top : (x + 1) * 2 ^ width_of row ≤ 2 ^ n * 2 ^ width_of row = mul-le-mul_right (2 ^ width_of row) (omega arith) in
    omega arith
word_of-lt (Blank ∷ row) xs b h = word_of-lt row xs b h

-- also where other bits stand above the row
pub fields_in-word : (row : List Part) (xs : List ℕ) (v k : ℕ) → is_binary row ≡ true → FitsRow row xs → v ≡ k * 2 ^ width_of row + word_of row xs → fields_in row v ≡ xs
fields_in-word [] [] v k b h e = refl
fields_in-word [] (x ∷ xs) v k b h e = absurd h
fields_in-word (Digit d ∷ row) xs v k b h e =
    let p : k * 2 ^ (1 + width_of row) ≡ k * (2 ^ 1 * 2 ^ width_of row) = ap (λ (q : ℕ). k * q) (pow-add 2 1 (width_of row)) in
    let lower : v ≡ (k * 2 + d) * 2 ^ width_of row + word_of row xs = omega arith in
    fields_in-word row xs v (k * 2 + d) (right (nat_lt d 2) (is_binary row) b) h lower
fields_in-word (Field a n ∷ row) [] v k b h e = absurd h
fields_in-word (Field a n ∷ row) (x ∷ xs) v k b h e =
    let p : k * 2 ^ (n + width_of row) ≡ k * (2 ^ n * 2 ^ width_of row) = ap (λ (q : ℕ). k * q) (pow-add 2 n (width_of row)) in
    let lower : v ≡ (k * 2 ^ n + x) * 2 ^ width_of row + word_of row xs = omega arith in
    let small = word_of-lt row xs b h.1 in
    let high : v / 2 ^ width_of row ≡ k * 2 ^ n + x = ap (λ (y : ℕ). y / 2 ^ width_of row) lower ∙ div-mul-add (k * 2 ^ n + x) (2 ^ width_of row) (word_of row xs) small in
    let first : bits v (width_of row) n ≡ x = ap (λ (y : ℕ). y % 2 ^ n) high ∙ mod-mul-add k (2 ^ n) x h.0 in
    let rest = fields_in-word row xs v (k * 2 ^ n + x) b h.1 lower in
    cc
fields_in-word (Blank ∷ row) xs v k b h e = fields_in-word row xs v k b h e

pub Decides-fits_row : (row : List Part) (xs : List ℕ) → Decides (fits_row row xs) (FitsRow row xs)
Decides-fits_row [] [] = (λ e. tt, λ u. refl)
Decides-fits_row [] (x ∷ xs) = (λ e. absurd (true≢false (sym e)), λ b. absurd b)
Decides-fits_row (Digit d ∷ row) xs = Decides-fits_row row xs
Decides-fits_row (Field a n ∷ row) [] = (λ e. absurd (true≢false (sym e)), λ b. absurd b)
Decides-fits_row (Field a n ∷ row) (x ∷ xs) = Decides-and (nat_lt x (2 ^ n)) (fits_row row xs) (Decides-ltb x (2 ^ n)) (Decides-fits_row row xs)
Decides-fits_row (Blank ∷ row) xs = Decides-fits_row row xs
