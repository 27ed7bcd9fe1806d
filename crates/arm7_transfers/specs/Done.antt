-- How code that acts on registers and a bus keeps to a definition of the model. This project's.
use Rattle.std.specs.Prelude.{◌≡◌, ℕ, true, false, List, ◌++◌, Some}
use Rattle.arm7_model.specs.declared.state.ArmState.{ArmState}
use Rattle.arm7_model.specs.Accesses.{Access, Working}
use Rattle.arm7_model.specs.Outcomes.{Stepped, Under, ran, raised, aborted, hosted, given_back}
use Rattle.arm7_bus.specs.States.{State}
use Rattle.arm7_transfers.specs.declared.outcome.Outcome.{Outcome}
use Rattle.arm7_transfers.specs.declared.outcome.Outcome.TheVariants.{Ran, Aborted, Unpredictable, Raised, Host, NoFrame}
use Rattle.arm7_transfers.specs.Boards.{board_of, working}
use Rattle.arm7_transfers.specs.Served.{served, answers_to}
use Rattle.arm7_transfers.specs.Frames.{has_frames, least_unused, stored_to}

-- an instruction's part of a step, by what it is under and the instruction under way
abbrev pub Part : Type 0
Part = Under → Working → Stepped

-- the end of a step that an outcome stands for
abbrev pub ended_by : Under → Outcome → Working → Stepped
ended_by u Ran w = ran w
ended_by u Aborted w = aborted u w
ended_by u Unpredictable w = given_back u w
ended_by u (Raised e) w = raised e w
ended_by u (Host n) w = hosted n w
ended_by u (NoFrame a) w = ran w

-- only an instruction that ran changes registers and memory
abbrev pub IsKept : Outcome → ArmState → State → ArmState → State → Type 0
IsKept Ran core s core' s' = Unit {0}
IsKept _ core s core' s' = (core' ≡ core) × (s'.contents.memory ≡ s.contents.memory)

-- The accesses `made` lead to the outcome: given the devices' answers to them and any that come later, the part ends as
-- the outcome says, over these registers and this bus, and the bus has served these accesses.
pub record Makes (part : Part) (core : ArmState) (s : State) (outcome : Outcome) (core' : ArmState) (s' : State) : Type 0 where
  pub made : List Access
  pub exact : (u : Under) (later : List ℕ) (before : List Access) → u.board ≡ board_of s
      → part u (working core s (answers_to s made ++ later) before) ≡ ended_by u outcome (working core' s' later (before ++ made))
  pub after : s' ≡ served s made
  pub frames : has_frames s made ≡ true
  pub kept : IsKept outcome core s core' s'

-- There is no frame for a page that the part's accesses store to, and the address is the least of those stores whose
-- page isn't used.
pub record Lacks (part : Part) (core : ArmState) (s : State) (a : ℕ) : Type 0 where
  pub asked : List Access
  pub exact : (u : Under) (later : List ℕ) (before : List Access) → u.board ≡ board_of s
      → (part u (working core s (answers_to s asked ++ later) before)).accesses ≡ before ++ asked
  pub frames : has_frames s asked ≡ false
  pub least : least_unused s.contents.used (stored_to s.contents.banks asked) ≡ Some a

-- Code that ends with this outcome, these registers and this bus did the part. Where it lacks a frame, it did nothing.
abbrev pub IsDone : Part → ArmState → State → Outcome → ArmState → State → Type 0
IsDone part core s (NoFrame a) core' s' = Lacks part core s a × (core' ≡ core) × (s' ≡ s)
IsDone part core s outcome core' s' = Makes part core s outcome core' s'
