-- When the kit is in force, and that interrupts are transparent then. This project's.
use Rattle.std.specs.Prelude.{◌≡◌, ℕ, ◌+◌, ◌%◌, ◌^◌, ◌<◌, ◌≤◌, true, false, List, get_or}
use Rattle.aof_object.specs.declared.records.Object.{Object}
use Rattle.arm7_model.specs.Memory.{Board, Bytes}
use Rattle.arm7_model.specs.Outcomes.{Stepped}
use Rattle.arm7_model.specs.Registers.{State}
use Rattle.arm7_model.specs.Runs.{Input}
use Rattle.patch_model.specs.Fields.{Values}
use Rattle.patch_model.specs.Patched.{Patched, Veneers}
use Rattle.kit_laws.specs.Laws.{HidesInterrupts, MayBeInterrupted}

-- an object of the kit is in force in a memory: from 4 to 0x4F stand the patched bytes of its first area, and its second
-- area has twelve bytes of memory from `work` on that may be written
pub record Holds (o : Object) (b : Board) (work : ℕ) (m : Bytes) : Type 0 where
  pub values : Values
  pub veneers : Veneers
  pub bytes : List ℕ
  pub patched : Patched o 0 values veneers bytes
  pub placed : values.base 1 ≡ work
  pub mapped : (a : ℕ) → 4 ≤ a → a < 0x50 → b.memory a ≡ true
  pub shown : (a : ℕ) → 4 ≤ a → a < 0x50 → m a ≡ get_or bytes a 0
  pub whole : work % 4 ≡ 0
  pub low : 0x50 ≤ work
  pub high : work + 12 ≤ 2 ^ 32
  pub ram : (i : ℕ) → i < 12 → b.memory (work + i) ≡ true
  pub free : (i : ℕ) → i < 12 → b.read_only (work + i) ≡ false

-- the word at an address is a device's
pub record IsDeviceWord (b : Board) (a : ℕ) : Type 0 where
  pub device : (i : ℕ) → i < 4 → b.device (a + i) ≡ true
  pub memory : (i : ℕ) → i < 4 → b.memory (a + i) ≡ false
  pub free : (i : ℕ) → i < 4 → b.read_only (a + i) ≡ false

-- where the object is in force and the word that its handler stores to is a device's, the run of each program that may be
-- interrupted hides its interrupts
abbrev pub IsTransparent : Object → ℕ → Type 0
IsTransparent o ack =
    (b : Board) (work : ℕ) (s : State) (inputs : List Input) (steps : List Stepped)
    → Holds o b work s.memory → IsDeviceWord b ack → MayBeInterrupted b work s inputs steps
    → HidesInterrupts b work ack s steps
