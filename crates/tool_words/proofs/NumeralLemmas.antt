-- What std reads as a number, in the words of this crate.
use Rattle.std.proofs.Common.{◌≡◌, ℕ, ◌<◌, ◌≤◌, ◌^◌, ◌==◌, Bool, true, false, nat_lt, List, [], ◌∷◌, Some, None, refl, ap, arith, cond, slice_index}
use Rattle.std.proofs.lemmas.Bool.Decides.{nat_tests}
use Rattle.std.specs.List.{list_all}
use Rattle.std.specs.Char.{digit_value}
use Rattle.std.specs.Str.Parse.{AllDigits, IsNumeral, digits_value, without_leading_plus}
use Rattle.tool_words.specs.Numerals.{is_numeral, if_word, numeral}

digits_all : (base : ℕ) (ds : List ℕ) → list_all (λ d. nat_lt (digit_value d) base) ds ≡ true → AllDigits base ds
digits_all base [] h = tt
digits_all base (d ∷ ds) h = (grind (arith, nat_tests), digits_all base ds (grind (arith, nat_tests)))

all_digits : (base : ℕ) (ds : List ℕ) → AllDigits base ds → list_all (λ d. nat_lt (digit_value d) base) ds ≡ true
all_digits base [] h = refl
all_digits base (d ∷ ds) h = let first : nat_lt (digit_value d) base ≡ true = grind (arith, nat_tests) in rw (first, all_digits base ds h.1) refl

numeral_of : (base : ℕ) (ds : List ℕ) → IsNumeral base ds → is_numeral base ds ≡ true
numeral_of base [] h = absurd (omega arith)
numeral_of base (d ∷ ds) h = all_digits base (d ∷ ds) h.1

of_numeral : (base : ℕ) (ds : List ℕ) → is_numeral base ds ≡ true → IsNumeral base ds
of_numeral base [] h = absurd (cc)
of_numeral base (d ∷ ds) h = (omega arith, digits_all base (d ∷ ds) h)

pub numeral_signed : (base : ℕ) (ds : List ℕ) → base ≤ 36 → (slice_index ds 0 == 43) ≡ true → None ≡ numeral base ds
numeral_signed base [] b h = refl
numeral_signed base (d ∷ ds) b h =
    let plus : d ≡ 43 = grind (arith, nat_tests) in
    let over : nat_lt (digit_value d) base ≡ false = rw plus (grind (arith, nat_tests)) in
    rw over refl

tested : (base : ℕ) (ds : List ℕ) (b : Bool) → is_numeral base ds ≡ b → numeral base ds ≡ cond b (if_word (digits_value base ds)) None
tested base ds b h = ap (λ v. cond v (if_word (digits_value base ds)) None) h

sized : (n : ℕ) (b : Bool) → nat_lt n (2 ^ 32) ≡ b → if_word n ≡ cond b (Some n) None
sized n b h = ap (λ v. cond v (Some n) None) h

plain : (ds : List ℕ) → (slice_index ds 0 == 43) ≡ false → without_leading_plus ds ≡ ds
plain ds h = rw h refl

read_ok : (base n : ℕ) (ds : List ℕ) → IsNumeral base ds × (digits_value base ds < 2 ^ 32) → n ≡ digits_value base ds → Some n ≡ numeral base ds
read_ok base n ds h e =
    let fits : nat_lt (digits_value base ds) (2 ^ 32) ≡ true = grind (arith, nat_tests) in
    rw (e, tested base ds true (numeral_of base ds h.0), sized (digits_value base ds) true fits) refl

read_err : (base : ℕ) (ds : List ℕ) (b c : Bool) → is_numeral base ds ≡ b → nat_lt (digits_value base ds) (2 ^ 32) ≡ c → (IsNumeral base ds × (digits_value base ds < 2 ^ 32) → ⊥) → None ≡ numeral base ds
read_err base ds true true p q refused = absurd (refused (of_numeral base ds p, grind (arith, nat_tests)))
read_err base ds true false p q refused = rw (tested base ds true p, sized (digits_value base ds) false q) refl
read_err base ds false c p q refused = rw (tested base ds false p) refl

-- what std reads, where the text begins with no plus
pub number_read : (base n : ℕ) (ds : List ℕ) → (slice_index ds 0 == 43) ≡ false → (IsNumeral base (without_leading_plus ds) × (digits_value base (without_leading_plus ds) < 2 ^ 32)) × (n ≡ digits_value base (without_leading_plus ds)) → Some n ≡ numeral base ds
number_read base n ds h p = let q = rw (plain ds h) at p in read_ok base n ds q.0 q.1

pub number_unread : (base : ℕ) (ds : List ℕ) → (slice_index ds 0 == 43) ≡ false → (IsNumeral base (without_leading_plus ds) × (digits_value base (without_leading_plus ds) < 2 ^ 32) → ⊥) → None ≡ numeral base ds
number_unread base ds h p = let q = rw (plain ds h) at p in read_err base ds _ _ refl refl q
