-- The banks of a run, and what can be wrong with them: two banks or devices that meet, a range of the image that no bank
-- has, and more pages in use than there are frames. This project's.
use Rattle.std.proofs.Common.{arith}
use Rattle.std.specs.Prelude.{◌≡◌, ℕ, ◌+◌, ◌^◌, ◌%◌, ◌<◌, ◌≤◌, ◌==◌, ◌&&◌, ◌||◌, not, nat_le, Bool, true, false, if◌then◌else◌, List, [], ◌∷◌, ◌++◌, length, map, min, slice_index_or}
use Rattle.std.specs.List.{list_any}
use Rattle.sdt_word.specs.declared.ranges.Range32.{Range32}
use Rattle.sdt_fault.specs.declared.kinds.Quantity.TheVariants.{MemoryBytes}
use Rattle.sdt_fault.specs.declared.refusal.Refusal.{Refusal}
use Rattle.sdt_fault.specs.declared.refusal.Refusal.TheVariants.{BankOverlap, NoRoom, TooLarge}
use Rattle.arm7_bus.specs.declared.memory.Bank.{Bank}
use Rattle.arm7_bus.specs.Meets.{IsNowhere, IsLeast, seats_have, seats_share}
use Rattle.arm7_bus.specs.Paging.{used_count}
use Rattle.arm7_bus.specs.Seats.{Seat, has_access}
use Rattle.arm7_bus.specs.States.{bank_has}
use Rattle.arm7_bus.specs.Touches.{pages_touched, range_touches}
use Rattle.run_opening.specs.declared.image.Need.{Need}

-- ---- the banks

abbrev pub memory_bank : Range32 → Bank
memory_bank r = record { range = r; read_only = false }

abbrev pub rom_bank : Range32 → Bank
rom_bank r = record { range = r; read_only = true }

-- those of memory, then the read-only ones; where none is told, 0x01000000 bytes of memory from 0 on
abbrev pub banks_of : List Range32 → List Range32 → List Bank
banks_of [] [] = memory_bank (record { base = 0; size = 0x01000000; in_space = omega arith }) ∷ []
banks_of memory rom = map memory_bank memory ++ map rom_bank rom

-- whole words, one at least
pub record IsBank (r : Range32) : Type 0 where
  pub base : r.base % 4 ≡ 0
  pub size : r.size % 4 ≡ 0
  pub some : 0 < r.size

-- ---- overlaps

-- a bank and a later one have the address
abbrev pub banks_share : List Bank → ℕ → Bool
banks_share [] a = false
banks_share (b ∷ bs) a = (has_access b.range.base b.range.size a 1 && bank_has bs a 1) || banks_share bs a

-- two banks, two devices, or one of each have the address
abbrev pub two_have : List Bank → List Seat → ℕ → Bool
two_have banks seats a = banks_share banks a || seats_share seats a || (bank_has banks a 1 && seats_have seats a)

-- ---- room

-- the address is needed, and no bank has it. Of what would end above 2^32 that is the base
abbrev pub lacks : List Bank → Need → ℕ → Bool
lacks banks n a =
    if nat_le (n.base + n.size) (2 ^ 32) then has_access n.base n.size a 1 && not (bank_has banks a 1) else a == n.base

abbrev pub is_lacking : List Bank → List Need → ℕ → Bool
is_lacking banks needs a = list_any (λ n. lacks banks n a) needs

-- ---- pages

-- the pages that are used at the opening: those that a needed range touches
pub record AreUsed (used : List Bool) (needs : List Need) : Type 0 where
  pub pages : length used ≡ 1048576
  pub each : (page : ℕ) → page < 1048576 → slice_index_or used page false ≡ list_any (λ n. range_touches n.base n.size page) needs

-- how many frames there are: one for each page that the banks touch, at most 65,536
abbrev pub frames_of : List Bank → ℕ
frames_of banks = min 65536 (pages_touched banks 1048576)

pub record HasFrames (banks : List Bank) (needs : List Need) : Type 0 where
  pub used : List Bool
  pub are_used : AreUsed used needs
  pub enough : used_count used ≤ frames_of banks

pub record LacksFrames (banks : List Bank) (needs : List Need) : Type 0 where
  pub used : List Bool
  pub are_used : AreUsed used needs
  pub too_many : frames_of banks < used_count used

-- ---- the first defect

-- nothing meets, all that is needed is memory, and there are frames for it
pub record IsRoomy (banks : List Bank) (seats : List Seat) (needs : List Need) : Type 0 where
  pub apart : IsNowhere (two_have banks seats)
  pub room : IsNowhere (is_lacking banks needs)
  pub frames : HasFrames banks needs

-- the refusal is that of the first defect: first what meets, then what is no memory, then the pages
abbrev pub IsDefect : List Bank → List Seat → List Need → Refusal → Type 0
IsDefect banks seats needs (BankOverlap a) = IsLeast (two_have banks seats) a
IsDefect banks seats needs (NoRoom a) = IsNowhere (two_have banks seats) × IsLeast (is_lacking banks needs) a
IsDefect banks seats needs (TooLarge quantity limit) =
    (quantity ≡ MemoryBytes) × (limit ≡ 0x10000000)
    × IsNowhere (two_have banks seats) × IsNowhere (is_lacking banks needs) × LacksFrames banks needs
IsDefect banks seats needs other = ⊥
