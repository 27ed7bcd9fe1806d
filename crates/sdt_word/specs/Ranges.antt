-- Which addresses a range has, and which of them two ranges share. This project's.
use Rattle.std.specs.Prelude.{ℕ, ◌+◌, ◌<◌, ◌≤◌}
use Rattle.sdt_word.specs.declared.ranges.Range32.{Range32}

-- the address is one of the range's
pub record Covers (r : Range32) (a : ℕ) : Type 0 where
  pub from_base : r.base ≤ a
  pub below_end : a < r.base + r.size

-- no address is in both
abbrev pub AreApart : Range32 → Range32 → Type 0
AreApart r s = (a : ℕ) → Covers r a → Covers s a → ⊥

-- the least address that is in both
pub record IsLeastShared (r s : Range32) (a : ℕ) : Type 0 where
  pub in_first : Covers r a
  pub in_second : Covers s a
  pub least : (b : ℕ) → Covers r b → Covers s b → a ≤ b
