-- Runs of bytes in one bank and one page. This project's.
use Rattle.std.specs.Prelude.{◌≡◌, ℕ, ◌+◌, ◌%◌, ◌^◌, ◌≤◌, List, true, length, unwrap_or}
use Rattle.sdt_word.specs.Bytes.{load}
use Rattle.arm7_bus.specs.Lookups.{HasFrom}
use Rattle.arm7_bus.specs.States.{Contents, bank_has, peeked}

-- the bytes that banks have from a on, as many as there are here; there are some unless the byte at a is 0 or in no bank
pub record IsPiece (c : Contents) (a : ℕ) (bytes : List ℕ) : Type 0 where
  pub are : bytes ≡ load c.memory a (length bytes)
  pub held : HasFrom c.banks a (length bytes)
  pub within : a + length bytes ≤ 2 ^ 32
  pub some : length bytes ≡ 0 → unwrap_or (peeked c a) 0 ≡ 0

-- the n bytes that one bank and one page have from a on
pub record IsPart (c : Contents) (a n : ℕ) (bytes : List ℕ) : Type 0 where
  pub are : bytes ≡ load c.memory a n
  pub held : bank_has c.banks a n ≡ true
  pub within : a % 4096 + n ≤ 4096
