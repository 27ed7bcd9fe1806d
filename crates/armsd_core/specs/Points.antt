-- Breakpoints. This project's.
use Rattle.std.specs.Prelude.{ℕ, ◌==◌, Bool, not, List, filter}
use Rattle.std.specs.List.{list_any}

-- the address is a breakpoint
abbrev pub is_point : List ℕ → ℕ → Bool
is_point points a = list_any (λ p. p == a) points

-- the other breakpoints
abbrev pub without : List ℕ → ℕ → List ℕ
without points a = filter (λ p. not (p == a)) points
