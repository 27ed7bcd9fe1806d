-- A shift by more than 32 places leaves nothing of a word, and no carry.
use Rattle.std.proofs.Common.{◌≡◌, ℕ, ◌+◌, ◌-◌, ◌*◌, ◌/◌, ◌%◌, ◌^◌, ◌<◌, ◌≤◌, false, ap, ◌∙◌, arith}
use Rattle.std.proofs.Math.Nat.{div-eq_of_lt}
use Rattle.std.proofs.Math.Pow.{pow_mono}
use Rattle.std.proofs.lemmas.Nat.{pow-add}
use Rattle.sdt_word.specs.declared.codes.ShiftKind.TheVariants.{Lsl, Lsr}
use Rattle.arm7_model.specs.Arithmetic.{shifted_by}
use Rattle.arm7_registers.specs.Values.{shifted_of}

-- every bit goes out on the right
div-pow-far : (v n : ℕ) → v < 2 ^ 32 → 32 ≤ n → v / 2 ^ n ≡ 0
div-pow-far v n small far = let least : 2 ^ 32 ≤ 2 ^ n = pow_mono far in div-eq_of_lt (omega arith)

pub right_far : (v n : ℕ) → v < 2 ^ 32 → 32 < n → shifted_of (record { value = 0; carry = false }) ≡ shifted_by Lsr v n
right_far v n small far =
    let value : v / 2 ^ n ≡ 0 = div-pow-far v n small (omega arith) in
    let carry : v / 2 ^ (n - 1) ≡ 0 = div-pow-far v (n - 1) small (omega arith) in
    rw (value, carry)

-- and on the left
mul-pow-far : (v n : ℕ) → 32 < n → v * 2 ^ n ≡ v * 2 ^ (n - 33) * 2 ^ 33
mul-pow-far v n far =
    let split : n ≡ (n - 33) + 33 = omega arith in
    let power : 2 ^ n ≡ 2 ^ (n - 33) * 2 ^ 33 = ap (λ k. 2 ^ k) split ∙ pow-add 2 (n - 33) 33 in
    rw power (omega arith)

pub left_far : (v n : ℕ) → 32 < n → shifted_of (record { value = 0; carry = false }) ≡ shifted_by Lsl v n
left_far v n far =
    let product = mul-pow-far v n far in
    let value : v * 2 ^ n % 2 ^ 32 ≡ 0 = omega arith in
    let carry : v * 2 ^ n / 2 ^ 32 % 2 ≡ 0 = omega arith in
    rw (value, carry)
