-- What code owes that makes a step over registers and a bus in which no interrupt comes. This project's.
use Rattle.std.specs.Prelude.{◌≡◌, ℕ, Bool, true, false, List, ◌++◌, Some, None}
use Rattle.arm7_model.specs.declared.state.ArmState.{ArmState}
use Rattle.arm7_model.specs.declared.event.Event.{Event}
use Rattle.arm7_model.specs.declared.event.Event.TheVariants.{NoFrame}
use Rattle.arm7_model.specs.Accesses.{Access}
use Rattle.arm7_model.specs.Outcomes.{Stepped}
use Rattle.arm7_model.specs.Registers.{register, is_thumb}
use Rattle.arm7_model.specs.Step.{Instruction, Levels, Reads, Step, done, fetch_width, interrupt}
use Rattle.arm7_bus.specs.Buses.{after_read}
use Rattle.arm7_bus.specs.States.{State}
use Rattle.arm7_transfers.specs.declared.outcome.Outcome.{Outcome}
use Rattle.arm7_transfers.specs.Boards.{board_of, over}
use Rattle.arm7_transfers.specs.Done.{IsDone}
use Rattle.arm7_transfers.specs.Frames.{has_frames, least_unused, stored_to}
use Rattle.arm7_transfers.specs.Served.{answers_to, served}

-- The accesses `made` are those of the step: given the devices' answers to them and any that come later, the step
-- leaves these registers, this memory and this event, and the bus has served these accesses.
pub record MakesStep (core : ArmState) (s : State) (e : Event) (core' : ArmState) (s' : State) : Type 0 where
  pub made : List Access
  pub exact : (lines : Levels) (later : List ℕ) → interrupt lines core.cpsr ≡ None
      → Step (board_of s) (over core s) lines (answers_to s made ++ later) (record { state = over core' s'; event = e; accesses = made })
  pub after : s' ≡ served s made
  pub frames : has_frames s made ≡ true

-- The step's accesses are `asked`; there is no frame for a page that they store to, and the address is the least of
-- those stores whose page isn't used. The fetch alone is made.
pub record LacksFrame (core : ArmState) (s : State) (a : ℕ) (core' : ArmState) (s' : State) : Type 0 where
  pub asked : List Access
  pub exact : (lines : Levels) (later : List ℕ) → interrupt lines core.cpsr ≡ None
      → (t : Stepped) × Step (board_of s) (over core s) lines (answers_to s asked ++ later) t × (t.accesses ≡ asked)
  pub frames : has_frames s asked ≡ false
  pub least : least_unused s.contents.used (stored_to s.contents.banks asked) ≡ Some a
  pub registers : core' ≡ core
  pub fetched : s' ≡ after_read s (register core 15) (fetch_width (is_thumb core.cpsr))

-- Code that ends with this event, these registers and this bus made a step.
abbrev pub IsStepped : ArmState → State → Event → ArmState → State → Type 0
IsStepped core s (NoFrame a) core' s' = LacksFrame core s a core' s'
IsStepped core s e core' s' = MakesStep core s e core' s'

-- Code that ends with this outcome, these registers and this bus did what the instruction of a word does.
pub record Executes (thumb : Bool) (word : ℕ) (core : ArmState) (s : State) (outcome : Outcome) (core' : ArmState) (s' : State) : Type 0 where
  pub instruction : Instruction
  pub reads : Reads thumb word instruction
  pub does : IsDone (λ u w. done u instruction w) core s outcome core' s'
