-- One more digit makes no number smaller.
use Rattle.std.proofs.Common.{◌≡◌, ◌∙◌, ℕ, suc, ◌+◌, ◌*◌, ◌<◌, ◌≤◌, List, [], ◌∷◌, length, drop, get_or, Option, Some, None, Bool, true, false, if◌then◌else◌, nat_le, leb-true, refl, ap, arith, drop-cons}
use Rattle.std.proofs.Math.Nat.{le-mul_of_pos_right}
use Rattle.std.specs.Char.{digit_value}
use Rattle.std.specs.Str.Parse.{digits_value, digits_value_after}

grows : (base n : ℕ) (ds : List ℕ) → 1 ≤ base → n ≤ digits_value_after base n ds
grows base n [] low = omega arith
grows base n (c ∷ cs) low =
    let product : n ≤ n * base = le-mul_of_pos_right n (omega arith) in
    let more : n * base + digit_value c ≤ digits_value_after base (n * base + digit_value c) cs = grows base (n * base + digit_value c) cs low in
    omega arith

-- a digit that makes the number too large makes that of all digits so
pub too_large : (base n i most : ℕ) (ds : List ℕ) → 1 ≤ base → i < length ds → most < n * base + digit_value (get_or ds i 0)
    → digits_value_after base n (drop i ds) ≡ digits_value base ds → most < digits_value base ds
too_large base n i most ds low inside large e =
    let next = n * base + digit_value (get_or ds i 0) in
    let split : digits_value_after base n (drop i ds) ≡ digits_value_after base next (drop (suc i) ds) = ap (digits_value_after base n) (drop-cons ds i 0 inside) in
    let more : next ≤ digits_value_after base next (drop (suc i) ds) = grows base next (drop (suc i) ds) low in
    omega arith

pub not_given : (most n : ℕ) → most < n → None ≡ (if nat_le n most then Some n else None)
not_given most n above = by (nat_le n most) refl
  where
    by : (b : Bool) → nat_le n most ≡ b → None ≡ (if b then Some n else None)
    by true e = let low = leb-true n most e in absurd (omega arith)
    by false e = refl
