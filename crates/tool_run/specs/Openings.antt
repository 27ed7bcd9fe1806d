-- The image that words name, loaded into the banks that they tell, or why there is none. This project's.
use Rattle.std.specs.Prelude.{◌≡◌, ℕ, List, map, Option, Result, Ok, Err}
use Rattle.sdt_word.specs.declared.ranges.Range32.{Range32}
use Rattle.sdt_fault.specs.declared.answer.Fault.{Fault}
use Rattle.sdt_fault.specs.declared.answer.Fault.TheVariants as fault
use Rattle.sdt_fault.specs.declared.refusal.Refusal.{Refusal}
use Rattle.sdt_outside.specs.Files.{Files}
use Rattle.arm7_bus.specs.declared.memory.Bank.{Bank as MemoryBank}
use Rattle.arm7_bus.specs.Seats.{Seat}
use Rattle.arm7_bus.specs.States.{State}
use Rattle.run_opening.specs.declared.image.Image.{Image}
use Rattle.run_opening.specs.Banks.{banks_of, IsDefect, IsRoomy}
use Rattle.run_opening.specs.Openings.{IsOpening}
use Rattle.tool_words.specs.declared.command.Bank.{Bank}
use Rattle.tool_words.specs.declared.command.RunImage.{RunImage}
use Rattle.tool_run.specs.declared.ends.ImageEnd.{ImageEnd}
use Rattle.tool_run.specs.declared.ends.ImageEnd.TheVariants as end
use Rattle.tool_run.specs.Images.{IsInput, IsRead}

-- ---- the banks that the words tell

-- the ranges have the bases and sizes that the words tell
abbrev pub AreRanges : List Bank → List Range32 → Type 0
AreRanges told ranges = map {B = ℕ × ℕ} (λ r. (r.base, r.size)) ranges ≡ map {B = ℕ × ℕ} (λ b. (b.base, b.size)) told

-- those of memory and the read-only ones
pub record AreBanks (told told_rom : List Bank) (banks : List MemoryBank) : Type 0 where
  pub memory : List Range32
  pub memory_told : AreRanges told memory
  pub rom : List Range32
  pub rom_told : AreRanges told_rom rom
  pub banks_are : banks ≡ banks_of memory rom

-- ---- an opening

-- the banks have room for the image and the devices, and the image was loaded into them
pub record IsFilled (memory rom : List Bank) (image : Image) (seats : List Seat) (s : State) : Type 0 where
  pub banks : List MemoryBank
  pub are_banks : AreBanks memory rom banks
  pub roomy : IsRoomy banks seats image.needs
  pub opening : IsOpening banks image seats s

-- what was read is the image, and it was loaded
pub record IsOpen (words : RunImage) (memory rom : List Bank) (told : Option Files) (rose : Type 0) (seats : List Seat)
    (image : Image) (s : State) : Type 0 where
  pub read_so : IsRead told rose words (Ok image)
  pub filled : IsFilled memory rom image seats s

-- ---- refusals

-- the refusal is that of the files, or that of the banks
abbrev pub IsRefusal : List Bank → List Bank → Result Image Refusal → List Seat → Refusal → Type 0
IsRefusal memory rom (Err told) seats r = r ≡ told
IsRefusal memory rom (Ok image) seats r = (banks : List MemoryBank) × AreBanks memory rom banks × IsDefect banks seats image.needs r

-- why the image isn't loaded; want of memory is free
abbrev pub IsClosed : List Bank → List Bank → Image → List Seat → Fault → Type 0
IsClosed memory rom image seats (fault.Refused r) = IsRefusal memory rom (Ok image) seats r
IsClosed memory rom image seats (fault.ReadFault name) = ⊥
IsClosed memory rom image seats fault.NoMemory = Unit {0}

-- the first refusal of the files or of the banks
abbrev pub IsFirstRefusal : RunImage → List Bank → List Bank → Option Files → Type 0 → List Seat → Refusal → Type 0
IsFirstRefusal words memory rom told rose seats r =
    (read : Result Image Refusal) × IsRead told rose words read × IsRefusal memory rom read seats r

-- why there is none: the first refusal, or the read of an input failed; want of memory is free
abbrev pub IsUnopened : RunImage → List Bank → List Bank → Option Files → Type 0 → List Seat → ImageEnd → Type 0
IsUnopened words memory rom told rose seats (end.Refused r) = IsFirstRefusal words memory rom told rose seats r
IsUnopened words memory rom told rose seats (end.Failed name) = rose × IsInput told words name
IsUnopened words memory rom told rose seats end.NoMemory = Unit {0}
