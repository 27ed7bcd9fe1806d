-- Strings in memory: bytes up to the first zero byte, at most 2^32 of them, at addresses modulo 2^32. This project's.
use Rattle.std.specs.Prelude.{◌≡◌, ◌≢◌, ℕ, zero, suc, ◌+◌, ◌%◌, ◌^◌, ◌<◌, ◌≤◌, List, [], ◌∷◌, ◌++◌, Option, Some, None, unwrap_or}
use Rattle.arm7_bus.specs.States.{Contents, peeked}

-- the byte at a place of a string
abbrev pub byte_behind : Contents → ℕ → ℕ → Option ℕ
byte_behind c a k = peeked c ((a + k) % 2 ^ 32)

-- the byte at a place is there, and isn't zero
pub record HasByte (c : Contents) (a k : ℕ) : Type 0 where
  pub byte : ℕ
  pub there : byte_behind c a k ≡ Some byte
  pub not_zero : byte ≢ 0

-- a string has so many bytes, and then its end, if it has one
pub record Reaches (c : Contents) (a n : ℕ) : Type 0 where
  pub most : n ≤ 2 ^ 32
  pub each : (k : ℕ) → k < n → HasByte c a k
  pub ended : n < 2 ^ 32 → byte_behind c a n ≡ Some 0

-- the string is broken: bytes that aren't zero, and then one that no bank has, at the address that is told
pub record IsBroken (c : Contents) (a told : ℕ) : Type 0 where
  pub count : ℕ
  pub few : count < 2 ^ 32
  pub each : (k : ℕ) → k < count → HasByte c a k
  pub missing : byte_behind c a count ≡ None
  pub is : told ≡ (a + count) % 2 ^ 32

-- the first so many bytes; one that no bank has is a zero
abbrev pub bytes_behind : Contents → ℕ → ℕ → List ℕ
bytes_behind c a zero = []
bytes_behind c a (suc n) = bytes_behind c a n ++ unwrap_or (byte_behind c a n) 0 ∷ []

-- the string at an address
abbrev pub IsString : Contents → ℕ → List ℕ → Type 0
IsString c a bytes = (n : ℕ) × Reaches c a n × (bytes ≡ bytes_behind c a n)
