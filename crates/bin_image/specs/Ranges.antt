-- The ranges of load lines, and an index of them by their bases, in which one of two that meet is found without a look at
-- all. This project's.
use Rattle.std.specs.Prelude.{◌≡◌, ℕ, ◌+◌, ◌<◌, ◌≤◌, ◌==◌, ◌&&◌, nat_lt, Bool, true, if◌then◌else◌, List, Option, Some, None, IsSome}
use Rattle.std.specs.List.{list_any}
use Rattle.bin_image.specs.declared.records.MapLoad.{MapLoad}

-- two load ranges share an address
abbrev pub meets : MapLoad → MapLoad → Bool
meets k l =
    nat_lt 0 k.size && nat_lt 0 l.size && nat_lt k.base (l.base + l.size) && nat_lt l.base (k.base + k.size)

-- the line's range has bytes, the first at a and the last before e
abbrev pub reaches : ℕ → ℕ → MapLoad → Bool
reaches a e l = nat_lt 0 l.size && l.base == a && l.base + l.size == e

-- for the base of each range that has bytes, and for no other number, the address behind its last byte; no two of these
-- ranges share an address
pub record IsIndexed (end_of : ℕ → Option ℕ) (ls : List MapLoad) : Type 0 where
  pub each : (a e : ℕ) → list_any (reaches a e) ls ≡ true → end_of a ≡ Some e
  pub only : (a e : ℕ) → end_of a ≡ Some e → list_any (reaches a e) ls ≡ true
  pub apart : (a e b f : ℕ) → end_of a ≡ Some e → end_of b ≡ Some f → a < b → e ≤ b

-- the end of the range that begins last before an address; None where none begins there
abbrev pub IsLastBefore : (ℕ → Option ℕ) → ℕ → Option ℕ → Type 0
IsLastBefore end_of a None = (q : ℕ) → q < a → end_of q ≡ None
IsLastBefore end_of a (Some e) =
    (b : ℕ) × (b < a) × (end_of b ≡ Some e) × ((q : ℕ) → q < a → IsSome (end_of q) → q ≤ b)

-- the index with one more line
abbrev pub with_end : (ℕ → Option ℕ) → MapLoad → ℕ → Option ℕ
with_end end_of l q = if nat_lt 0 l.size && q == l.base then Some (l.base + l.size) else end_of q
