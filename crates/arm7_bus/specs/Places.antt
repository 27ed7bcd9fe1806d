-- A range of addresses as two numbers. This project's.
use Rattle.std.specs.Prelude.{ℕ}
use Rattle.sdt_word.specs.declared.ranges.Range32.{Range32}

-- its base and its size
abbrev pub place_of : Range32 → ℕ × ℕ
place_of r = (r.base, r.size)
