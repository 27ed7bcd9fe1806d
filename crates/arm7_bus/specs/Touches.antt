-- Which pages of 4,096 bytes the banks touch. This project's.
use Rattle.std.specs.Prelude.{◌≡◌, ◌≤◌, ◌<◌, ℕ, zero, suc, ◌+◌, ◌*◌, Bool, nat_lt, max, min, if◌then◌else◌, List}
use Rattle.std.specs.List.{list_any}
use Rattle.arm7_bus.specs.declared.memory.Bank.{Bank}

-- a range has an address in a page
abbrev pub range_touches : ℕ → ℕ → ℕ → Bool
range_touches base size page = nat_lt (max base (4096 * page)) (min (base + size) (4096 * page + 4096))

-- how many of the first n pages the banks touch
unfoldable pub pages_touched : List Bank → ℕ → ℕ
pages_touched banks zero = 0
pages_touched banks (suc n) =
    pages_touched banks n + (if list_any (λ b. range_touches b.range.base b.range.size n) banks then 1 else 0)

-- the banks touch each page from one on before another, or none of them
pub record IsRun (banks : List Bank) (page edge : ℕ) : Type 0 where
  pub same : (x : ℕ) → page ≤ x → x < edge
      → list_any (λ b. range_touches b.range.base b.range.size x) banks ≡ list_any (λ b. range_touches b.range.base b.range.size page) banks
