-- Digits.
use Rattle.std.proofs.Common.{◌≡◌, ℕ, zero, suc, ◌<◌, ◌≤◌, ◌+◌, ◌*◌, ◌^◌, ◌-◌, List, [], ◌∷◌, length, get_or, drop, fold, refl, sym, ap, arith, add-one, drop-cons, nat_lt, Some, None}
use Rattle.std.specs.Prelude.{nat_le, if◌then◌else◌}
use Rattle.std.proofs.lemmas.Bool.{le-ltb, cond-false, cond_both}
use Rattle.std.proofs.Math.Nat.{le-mul_of_pos_right, mul_comm}
use Rattle.asm_model.specs.Parts.{digit_value, digits_value}

abbrev pub taken : ℕ → ℕ → List ℕ → ℕ
taken base value digits = fold (λ n c. base * n + digit_value c) value digits

pub digits_step : (base value i from dig next : ℕ) (digits : List ℕ) → i < length digits → from ≡ base → dig ≡ digit_value (get_or digits i 0)
    → next ≡ value * from + dig
    → taken base next (drop (i + 1) digits) ≡ taken base value (drop i digits)
digits_step base value i from dig next digits lt f d n =
    let e : next ≡ base * value + digit_value (get_or digits i 0) = rw (n, f, d) (ap (λ (x : ℕ). x + digit_value (get_or digits i 0)) (mul_comm value base)) in
    rw (e, add-one, drop-cons digits i 0 lt) refl

grows : (base value : ℕ) (digits : List ℕ) → 0 < base → value ≤ taken base value digits
grows base value [] h = omega arith
grows base value (c ∷ cs) h =
    let more = grows base (base * value + digit_value c) cs h in
    let times : value ≤ value * base = le-mul_of_pos_right value h in
    let swap = mul_comm value base in
    omega arith

small_digit : (c : ℕ) → digit_value c ≤ c
small_digit c =
    cond_both (nat_le c 57) (c - 48) (if nat_le c 70 then c - 55 else c - 87) (λ x. x ≤ c) (λ e. omega arith)
    (λ e. cond_both (nat_le c 70) (c - 55) (c - 87) (λ x. x ≤ c) (λ e. omega arith) (λ e. omega arith))

-- once above the limit, digits stay above it
pub digits_over : (base value i from dig next : ℕ) (digits : List ℕ) → i < length digits → from ≡ base → dig ≡ digit_value (get_or digits i 0)
    → next ≡ value * from + dig
    → get_or digits i 0 < 256 → 2 ^ 32 ≤ next → taken base value (drop i digits) ≡ digits_value base digits
    → None ≡ (if nat_lt (digits_value base digits) (2 ^ 32) then Some (digits_value base digits) else None)
digits_over zero value i from dig next digits lt f d n small over whole =
    let s = small_digit (get_or digits i 0) in
    let z : next ≡ value * 0 + dig = rw f at n in
    absurd (omega arith)
digits_over (suc base) value i from dig next digits lt f d n small over whole =
    let step = digits_step (suc base) value i from dig next digits lt f d n in
    let g = grows (suc base) next (drop (i + 1) digits) (omega arith) in
    let big : 2 ^ 32 ≤ digits_value (suc base) digits = omega arith in
    sym (cond-false (nat_lt (digits_value (suc base) digits) (2 ^ 32)) _ _ (le-ltb (digits_value (suc base) digits) (2 ^ 32) big))
