-- An address with bit 0 cleared.
use Rattle.std.proofs.Common.{◌≡◌, ℕ, ◌-◌, ◌%◌, arith}

pub even_below : (n : ℕ) → (n - n % 2) % 2 ≡ 0
even_below n = omega arith
