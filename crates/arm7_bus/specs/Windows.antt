-- A page that one bank has whole and that has a frame, and where its bytes stand. This project's.
use Rattle.std.specs.Prelude.{◌≡◌, ℕ, ◌+◌, ◌*◌, ◌/◌, ◌%◌, ◌^◌, ◌<◌, true, false, List, Option, Some}
use Rattle.arm7_bus.specs.declared.memory.Bank.{Bank}
use Rattle.arm7_bus.specs.Lookups.{bank_has, is_protected}
use Rattle.arm7_bus.specs.Paging.{frame_of}

-- where there is such a page, one bank has all its bytes, and a shift, added to an address, gives its place among the bytes
-- of all frames
pub record IsWindow (banks : List Bank) (table : List (Option ℕ)) (page shift : ℕ) : Type 0 where
  pub has : page < 1048576 → bank_has banks (4096 * page) 4096 ≡ true
  pub frame : page < 1048576 → frame_of table page ≡ Some ((4096 * page + shift) % 2 ^ 32 / 4096)
  pub whole : shift % 4096 ≡ 0

-- the same, where the bank isn't protected
pub record IsDataWindow (banks : List Bank) (table : List (Option ℕ)) (page shift : ℕ) : Type 0 where
  pub window : IsWindow banks table page shift
  pub free : page < 1048576 → is_protected banks (4096 * page) 4096 ≡ false

-- each page that had a frame has it still
pub record KeepsFrames (old new : List (Option ℕ)) : Type 0 where
  pub each : (page frame : ℕ) → frame_of old page ≡ Some frame → frame_of new page ≡ Some frame
