-- What each step of an opening makes of a bus. This project's.
use Rattle.std.specs.Prelude.{◌≡◌, ℕ, ◌+◌, ◌/◌, ◌<◌, ◌≤◌, Bool, true, false, List, [], ◌∷◌, ◌++◌, map}
use Rattle.std.proofs.Common.{arith}
use Rattle.sdt_word.specs.declared.ranges.Range32.{Range32}
use Rattle.sdt_fault.specs.declared.answer.Fault.{Fault}
use Rattle.sdt_fault.specs.declared.answer.Fault.TheVariants as fault
use Rattle.sdt_fault.specs.declared.kinds.Quantity.TheVariants.{MemoryBytes}
use Rattle.sdt_fault.specs.declared.refusal.Refusal.{Refusal}
use Rattle.sdt_fault.specs.declared.refusal.Refusal.TheVariants.{TooLarge}
use Rattle.arm7_bus.specs.declared.memory.Bank.{Bank}
use Rattle.arm7_bus.specs.Buses.{IsStarted}
use Rattle.arm7_bus.specs.Paging.{page_used_in, used_count}
use Rattle.arm7_bus.specs.Protection.{protected_bank}
use Rattle.arm7_bus.specs.Seats.{Seat}
use Rattle.arm7_bus.specs.States.{Contents, State, bank_has, claimed, pages_of, protected_at}
use Rattle.arm7_bus.specs.WholeWords.{AreWholeBanks}
use Rattle.arm7_model.specs.Memory.{store}
use Rattle.run_opening.specs.declared.image.Image.{Image}
use Rattle.run_opening.specs.declared.image.Load.{Load}
use Rattle.run_opening.specs.declared.image.Need.{Need}
use Rattle.run_opening.specs.Banks.{AreUsed, LacksFrames, frames_of}
use Rattle.run_opening.specs.Openings.{loaded}

-- ---- banks and pages

-- the ranges of all banks
abbrev pub ranges_of : List Range32 → List Range32 → List Range32
ranges_of [] [] = record { base = 0; size = 0x01000000; in_space = omega arith } ∷ []
ranges_of memory rom = memory ++ rom

abbrev pub with_banks : State → List Bank → State
with_banks s banks = record s { contents = record s.contents { banks = banks } }

abbrev pub with_used : State → List Bool → State
with_used s used = record s { contents = record s.contents { used = used } }

-- what is needed ends at 2^32 or below
pub record EndsBelow (n : Need) : Type 0 where
  pub end : n.base + n.size ≤ 4294967296

-- the used pages once those of the needs are used too
abbrev pub claimed_all : List Bool → List Need → List Bool
claimed_all used [] = used
claimed_all used (n ∷ ns) = claimed_all (claimed used (n.base / 4096) (pages_of n.base n.size)) ns

-- banks once those of these ranges are protected
abbrev pub protected_all : List Range32 → List Bank → List Bank
protected_all [] banks = banks
protected_all (r ∷ rs) banks = protected_all rs (map (protected_bank r) banks)

-- a bus of these banks of zeros, with the needed pages used and frames for them
pub record IsPrepared (banks : List Bank) (needs : List Need) (seats : List Seat) (s : State) : Type 0 where
  pub banks_are : s.contents.banks ≡ banks
  pub memory : (a : ℕ) → s.contents.memory a ≡ 0
  pub used : AreUsed s.contents.used needs
  pub room : used_count s.contents.used ≤ s.contents.frames
  pub frames : s.contents.frames ≡ frames_of banks
  pub stores : s.contents.stores ≡ []
  pub devices : s.devices ≡ seats

-- why it can't be prepared
abbrev pub LacksPages : List Bank → List Need → Refusal → Type 0
LacksPages banks needs (TooLarge quantity limit) = (quantity ≡ MemoryBytes) × (limit ≡ 0x10000000) × LacksFrames banks needs
LacksPages banks needs other = ⊥

abbrev pub IsUnprepared : List Bank → List Need → Fault → Type 0
IsUnprepared banks needs (fault.Refused r) = LacksPages banks needs r
IsUnprepared banks needs (fault.ReadFault name) = ⊥
IsUnprepared banks needs fault.NoMemory = Unit {0}

-- ---- bytes

abbrev pub after_put : State → ℕ → List ℕ → State
after_put s a bytes = record s { contents = record s.contents { memory = store s.contents.memory a bytes } }

abbrev pub after_loads : State → List Load → State
after_loads s loads = record s { contents = record s.contents { memory = loaded s.contents.memory loads } }

-- memory with its pages and whole words, nothing noted and nothing protected
pub record IsOpen (s : State) : Type 0 where
  pub started : IsStarted s
  pub quiet : s.contents.stores ≡ []
  pub whole : AreWholeBanks s.contents.banks
  pub free : (a : ℕ) → protected_at s.contents.banks a ≡ false

-- each of the n addresses from a on is memory, and its page is used
pub record IsUsable (c : Contents) (a n : ℕ) : Type 0 where
  pub bank : (x : ℕ) → a ≤ x → x < a + n → bank_has c.banks x 1 ≡ true
  pub page : (x : ℕ) → a ≤ x → x < a + n → page_used_in c.used x ≡ true
  pub below : 0 < n → a + n ≤ 4294967296

-- the image's files are loaded, and some of the banks are protected
pub record IsFilled (banks after : List Bank) (image : Image) (seats : List Seat) (s : State) : Type 0 where
  pub banks_are : s.contents.banks ≡ after
  pub memory : s.contents.memory ≡ loaded (λ a. 0) image.loads
  pub used : AreUsed s.contents.used image.needs
  pub room : used_count s.contents.used ≤ s.contents.frames
  pub frames : s.contents.frames ≡ frames_of banks
  pub stores : s.contents.stores ≡ []
  pub devices : s.devices ≡ seats
