-- A rotation by all places.
use Rattle.std.proofs.Common.{◌≡◌, ◌<◌, ◌≤◌, ℕ, ◌+◌, ◌-◌, ◌*◌, ◌/◌, ◌%◌, ◌^◌, ap, arith}
use Rattle.std.proofs.Math.Nat.{div-eq_of_lt, mod-eq_of_lt, pow-le-pow_right}
use Rattle.sdt_word.specs.Numbers.{rotated}

summed : (n a b c : ℕ) → a ≡ 0 → b ≡ n → c ≡ 1 → a + b * c ≡ n
summed n a b c x y z = rw (x, y, z) (omega arith)

pub rotated_far : (n p : ℕ) → n < 2 ^ 32 → 32 ≤ p → rotated n p ≡ n
rotated_far n p low far =
    let power : 2 ^ 32 ≤ 2 ^ p = pow-le-pow_right {n = 2} (omega arith) far in
    let below : n < 2 ^ p = omega (arith, low, power) in
    let none : 32 - p ≡ 0 = omega arith in
    summed n (n / 2 ^ p) (n % 2 ^ p) (2 ^ (32 - p)) (div-eq_of_lt below) (mod-eq_of_lt below) (ap (λ k. 2 ^ k) none)
