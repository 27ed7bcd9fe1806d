-- The state of the bus before the first step of a run. This project's.
use Rattle.std.specs.Prelude.{◌≡◌, ◌<◌, true, List, [], ◌∷◌, length}
use Rattle.std.specs.List.{list_any, AllByRecursion}
use Rattle.arm7_bus.specs.declared.memory.Bank.{Bank}
use Rattle.arm7_bus.specs.Seats.{Seat, has_access}
use Rattle.arm7_bus.specs.States.{State}
use Rattle.arm7_model.specs.Memory as memory
use Rattle.arm7_model.specs.Memory.{store}
use Rattle.sdt_fault.specs.declared.answer.Fault.{Fault}
use Rattle.sdt_fault.specs.declared.answer.Fault.TheVariants as fault
use Rattle.run_opening.specs.declared.image.Image.{Image}
use Rattle.run_opening.specs.declared.image.Load.{Load}
use Rattle.run_opening.specs.declared.image.Need.{Need}
use Rattle.run_opening.specs.Banks.{AreUsed, IsDefect, frames_of}

-- memory with files loaded one after the other
abbrev pub loaded : memory.Bytes → List Load → memory.Bytes
loaded m [] = m
loaded m (l ∷ ls) = loaded (store m l.base l.bytes) ls

-- the banks hold the image's files and are 0 elsewhere, the pages of the image are used, and the devices are as they were
pub record IsOpening (banks : List Bank) (image : Image) (seats : List Seat) (s : State) : Type 0 where
  pub banks_are : s.contents.banks ≡ banks
  pub memory : s.contents.memory ≡ loaded (λ a. 0) image.loads
  pub used : AreUsed s.contents.used image.needs
  pub frames : s.contents.frames ≡ frames_of banks
  pub stores : s.contents.stores ≡ []
  pub devices : s.devices ≡ seats

-- why a run isn't opened; want of memory is free
abbrev pub IsClosed : List Bank → List Seat → Image → Fault → Type 0
IsClosed banks seats image (fault.Refused r) = IsDefect banks seats image.needs r
IsClosed banks seats image (fault.ReadFault name) = ⊥
IsClosed banks seats image fault.NoMemory = Unit {0}

-- a load file's bytes lie in what one need names
pub record IsNeeded (needs : List Need) (l : Load) : Type 0 where
  pub within : 0 < length l.bytes → list_any (λ n. has_access n.base n.size l.base (length l.bytes)) needs ≡ true

abbrev pub AreNeeded : Image → Type 0
AreNeeded image = AllByRecursion (IsNeeded image.needs) image.loads
