-- Parts of a number and the two operations on words that the instruction set has beside arithmetic:
-- rotation to the right and two's complement (ARM Architecture Reference Manual, glossary and operand 2).
use Rattle.std.specs.Prelude.{◌≡◌, ℕ, zero, suc, ◌+◌, ◌-◌, ◌*◌, ◌/◌, ◌%◌, ◌^◌, ◌<◌, ◌≤◌, Bool, true, false, nat_lt, if◌then◌else◌, List, [], ◌∷◌}

-- the width bits of w from bit `at` on, and one bit
abbrev pub bits : ℕ → ℕ → ℕ → ℕ
bits w at width = w / 2 ^ at % 2 ^ width

abbrev pub bit : ℕ → ℕ → ℕ
bit w at = w / 2 ^ at % 2

-- a truth value as a bit
abbrev pub flag : Bool → ℕ
flag false = 0
flag true = 1

-- the word v rotated right by n places: its n low bits come to stand above the others
abbrev pub rotated : ℕ → ℕ → ℕ
rotated v n = v / 2 ^ n + v % 2 ^ n * 2 ^ (32 - n)

-- what the low n bits of v say as two's complement, as a word: their number, or 2^n less than it
-- where the highest of them is 1
abbrev pub sign_extended : ℕ → ℕ → ℕ
sign_extended v n =
    if nat_lt (v % 2 ^ n) (2 ^ (n - 1)) then v % 2 ^ n else v % 2 ^ n + (2 ^ 32 - 2 ^ n)

-- the places among 0 to n - 1 at which v has a 1, in rising order: a register list
abbrev pub kept : ℕ → ℕ → List ℕ → List ℕ
kept zero k ks = ks
kept (suc b) k ks = k ∷ ks

abbrev pub places_from : ℕ → ℕ → ℕ → List ℕ
places_from k zero v = []
places_from k (suc n) v = kept (bit v k) k (places_from (suc k) n v)

abbrev pub registers : ℕ → ℕ → List ℕ
registers n v = places_from 0 n v

-- the value of an immediate operand: a byte rotated right by twice r
abbrev pub operand : ℕ → ℕ → ℕ
operand r byte = rotated byte (2 * r)

-- v is the byte rotated right by twice r, and no smaller rotation of a byte is v
pub record IsLeastRotation (v r byte : ℕ) : Type 0 where
  pub rotation : r < 16
  pub is_byte : byte < 256
  pub value : operand r byte ≡ v
  pub least : (s other : ℕ) → s < 16 → other < 256 → operand s other ≡ v → r ≤ s
