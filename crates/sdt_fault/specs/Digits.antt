-- Numbers in texts. Decimal is std's `decimal`, what Rust's `{}` writes, and hexadecimal what Rust's `{:08X}` writes.
use Rattle.std.specs.Prelude.{ℕ, zero, suc, ◌/◌, ◌%◌, ◌^◌, List, [], ◌∷◌, ◌++◌, nat_lt, if◌then◌else◌, true}
use Rattle.std.specs.Fmt.{digits, digit_glyph}

-- the last k hexadecimal digits of n, upper case, the highest first
abbrev pub hexadecimal_places : ℕ → ℕ → List ℕ
hexadecimal_places zero n = []
hexadecimal_places (suc k) n = hexadecimal_places k (n / 16) ++ digit_glyph true (n % 16) ∷ []

-- eight digits; from 2 ^ 32 on as many as the number needs
unfoldable pub hexadecimal : ℕ → List ℕ
hexadecimal n = if nat_lt n (2 ^ 32) then hexadecimal_places 8 n else digits 16 true n
