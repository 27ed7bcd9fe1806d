-- Rotation of a word: as std's call computes it, and its bound.
use Rattle.std.proofs.Common.{◌≡◌, ℕ, zero, suc, ◌+◌, ◌-◌, ◌*◌, ◌/◌, ◌%◌, ◌^◌, ◌<◌, ◌≤◌, bit_or, sym, ap, subst, add_comm, ◌∙◌, arith, mul-div_cancel, mul-le-mul_right, mod-lt, pow_pos, pow-add, shr_lt, div-one, div-add-mod'}
use Rattle.std.proofs.Math.Nat.{mul-mod_left}
use Rattle.std.proofs.lemmas.Nat.{div-mul-add, mod-mul-add, mod-pow-add, or_comm, or_shifted}
use Rattle.std.specs.Int.Bits.{or_self}
use Rattle.sdt_word.specs.Numbers.{rotated}

-- a number shifted up by m places keeps its n low bits below 2^(n + m)
pub shifted-mod : (v n m : ℕ) → v * 2 ^ m % 2 ^ (n + m) ≡ v % 2 ^ n * 2 ^ m
shifted-mod v n m =
    let split = mod-pow-add (v * 2 ^ m) n m in
    let whole = mul-div_cancel v (pow_pos m) in
    let none = mul-mod_left v (2 ^ m) in
    rw (split, whole, none) (omega arith)

-- the two halves of a rotation share no bit
or-rotated : (v n m : ℕ) → v < 2 ^ 32 → n + m ≡ 32 → bit_or (v / 2 ^ n) (v * 2 ^ m % 2 ^ 32) ≡ v / 2 ^ n + v % 2 ^ n * 2 ^ m
or-rotated v n m small e =
    let top : 2 ^ 32 ≡ 2 ^ (n + m) = ap (λ (k : ℕ). 2 ^ k) (sym e) in
    let moved : v * 2 ^ m % 2 ^ 32 ≡ v % 2 ^ n * 2 ^ m = ap (λ (k : ℕ). v * 2 ^ m % k) top ∙ shifted-mod v n m in
    let Small : ℕ → Type 0 = λ k. v < 2 ^ k in
    let sum : 32 ≡ m + n = omega arith in
    let fits : v < 2 ^ (m + n) = subst Small sum small in
    let low : v / 2 ^ n < 2 ^ m = shr_lt m n fits in
    ap (bit_or (v / 2 ^ n)) moved ∙ or_comm (v / 2 ^ n) (v % 2 ^ n * 2 ^ m) ∙ or_shifted (v % 2 ^ n) m (v / 2 ^ n) low ∙ add_comm (v % 2 ^ n * 2 ^ m) (v / 2 ^ n)

-- a word rotated is a word
pub rotated-fits : (v n : ℕ) → v < 2 ^ 32 → n ≤ 32 → rotated v n < 2 ^ 32
rotated-fits v n small h =
    let Small : ℕ → Type 0 = λ k. v < 2 ^ k in
    let sum : 32 ≡ 32 - n + n = omega arith in
    let low : v / 2 ^ n < 2 ^ (32 - n) = shr_lt (32 - n) n (subst Small sum small) in
    let high : v % 2 ^ n < 2 ^ n = mod-lt v (pow_pos n) in
    let both : 2 ^ (32 - n + n) ≡ 2 ^ (32 - n) * 2 ^ n = pow-add 2 (32 - n) n in
    let whole : 2 ^ 32 ≡ 2 ^ (32 - n + n) = ap (λ (k : ℕ). 2 ^ k) sum in
    let top : (v % 2 ^ n + 1) * 2 ^ (32 - n) ≤ 2 ^ n * 2 ^ (32 - n) = mul-le-mul_right (2 ^ (32 - n)) (omega arith) in
    omega arith

-- std's rotation of a word is the sum of its halves
pub rotate_right-rotated : (v n : ℕ) → v < 2 ^ 32 → n < 32 → bit_or (v / 2 ^ (n % 32)) (v * 2 ^ ((32 - n % 32) % 32) % 2 ^ 32) ≡ rotated v n
rotate_right-rotated v zero small h =
    let one : v / 1 ≡ v = div-one v in
    let same : v * 1 % 2 ^ 32 ≡ v = omega arith in
    rw (one, same, or_self v) (omega arith)
rotate_right-rotated v (suc n) small h =
    let place : suc n % 32 ≡ suc n = omega arith in
    let other : (32 - suc n % 32) % 32 ≡ 32 - suc n = omega arith in
    rw (other, place) (or-rotated v (suc n) (32 - suc n) small (omega arith))

-- rotating on by what is left of a turn gives the word back
pub rotated-back : (v n m : ℕ) → v < 2 ^ 32 → n + m ≡ 32 → rotated (rotated v n) m ≡ v
rotated-back v n m small e =
    let Small : ℕ → Type 0 = λ k. v < 2 ^ k in
    let sum : 32 ≡ m + n = omega arith in
    let low : v / 2 ^ n < 2 ^ m = shr_lt m n (subst Small sum small) in
    let first : 32 - n ≡ m = omega arith in
    let second : 32 - m ≡ n = omega arith in
    let turned : rotated v n ≡ v % 2 ^ n * 2 ^ m + v / 2 ^ n = rw first (add_comm (v / 2 ^ n) (v % 2 ^ n * 2 ^ m)) in
    let top : (v % 2 ^ n * 2 ^ m + v / 2 ^ n) / 2 ^ m ≡ v % 2 ^ n = div-mul-add (v % 2 ^ n) (2 ^ m) (v / 2 ^ n) low in
    let bottom : (v % 2 ^ n * 2 ^ m + v / 2 ^ n) % 2 ^ m ≡ v / 2 ^ n = mod-mul-add (v % 2 ^ n) (2 ^ m) (v / 2 ^ n) low in
    let split = div-add-mod' v (2 ^ n) in
    ap (λ (w : ℕ). rotated w m) turned ∙ rw (second, top, bottom) (omega arith)

-- no turn, and a whole one, leave the word
pub rotated-none : (v : ℕ) → rotated v 0 ≡ v
rotated-none v = omega (arith, div-one v)

pub rotated-whole : (v : ℕ) → v < 2 ^ 32 → rotated v 32 ≡ v
rotated-whole v small = omega arith
