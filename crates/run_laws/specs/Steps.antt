-- Steps over a bus, which gives each the lines of its devices' ticks and their answers to its accesses. This project's.
use Rattle.std.specs.Prelude.{◌≡◌, ℕ, ◌+◌, Bool, true, List, [], ◌∷◌, ◌++◌, length}
use Rattle.sdt_fault.specs.declared.answer.Stop.{Stop}
use Rattle.sdt_fault.specs.declared.answer.Stop.TheVariants as stop
use Rattle.arm7_model.specs.declared.state.ArmState.{ArmState}
use Rattle.arm7_model.specs.declared.event.Event.{Event}
use Rattle.arm7_model.specs.Accesses.{Access}
use Rattle.arm7_model.specs.Outcomes.{Stepped}
use Rattle.arm7_model.specs.Runs.{AreSteps, Input, accesses_of, behind}
use Rattle.arm7_model.specs.Step.{Step}
use Rattle.arm7_bus.specs.Buses.{after_tick}
use Rattle.arm7_bus.specs.Paging.{page_used_in}
use Rattle.arm7_bus.specs.Seats.{lines_up}
use Rattle.arm7_bus.specs.States.{State, Contents}
use Rattle.arm7_core.specs.Machines.{Ends, levels}
use Rattle.arm7_transfers.specs.Boards.{board_of, over}
use Rattle.arm7_transfers.specs.Frames.{has_frames, stored_to}
use Rattle.arm7_transfers.specs.Served.{answers_to, served}
use Rattle.arm7_run.specs.Runs.{GoesOn}

-- what a bus gives to steps that make these accesses
abbrev pub given_by : State → List (List Access) → List Input
given_by s [] = []
given_by s (xs ∷ rest) =
    record { lines = levels (lines_up (after_tick s).devices); answers = answers_to (after_tick s) xs }
    ∷ given_by (served (after_tick s) xs) rest

-- the bus behind them
abbrev pub left_by : State → List (List Access) → State
left_by s [] = s
left_by s (xs ∷ rest) = left_by (served (after_tick s) xs) rest

-- what they print, where a run goes on behind each
abbrev pub Print : State → List Stepped → List ℕ → Type 0
Print s [] text = text ≡ []
Print s (x ∷ xs) text =
    (piece : List ℕ) × (rest : List ℕ)
    × GoesOn x.event x.state.core (served (after_tick s) x.accesses) piece
    × Print (served (after_tick s) x.accesses) xs rest × (text ≡ piece ++ rest)

-- These are n steps of the model over the board of a bus, with the lines and the answers of its own devices. They print the
-- text, and lead from registers and the bus to others.
pub record IsRunOf (core : ArmState) (s : State) (n : ℕ) (text : List ℕ) (core' : ArmState) (s' : State) (steps : List Stepped) : Type 0 where
  pub count : length steps ≡ n
  pub steps_are : AreSteps (board_of s) (over core s) (given_by s (accesses_of steps)) steps
  pub print : Print s steps text
  pub state : behind (over core s) steps ≡ over core' s'
  pub bus : s' ≡ left_by s (accesses_of steps)

-- ---- the steps that a run made

-- the model's step x, with the devices' own answers, and how it ends over the bus
pub record IsStepOf (core : ArmState) (s : State) (x : Stepped) (e : Event) (core' : ArmState) (s' : State) : Type 0 where
  pub step : Step (board_of s) (over core s) (levels (lines_up s.devices)) (answers_to s x.accesses) x
  pub ends : Ends (has_frames s x.accesses) core s x e core' s'

-- these steps, one behind the other, lead to registers and a bus
abbrev pub AreMade : ArmState → State → List Stepped → ArmState → State → Type 0
AreMade core s [] core' s' = (core' ≡ core) × (s' ≡ s)
AreMade core s (x ∷ xs) core' s' =
    (e : Event) × (core1 : ArmState) × (s1 : State) × IsStepOf core (after_tick s) x e core1 s1 × AreMade core1 s1 xs core' s'

-- how many steps a run made, by its stop and those that count: one more where the last doesn't count
abbrev pub steps_made : Stop → ℕ → ℕ
steps_made (stop.Unpredictable a w) counted = counted + 1
steps_made (stop.NoFrame a) counted = counted + 1
steps_made other counted = counted

-- ---- stores

-- the page of each address is used
abbrev pub AreUsed : List Bool → List ℕ → Type 0
AreUsed used [] = Unit {0}
AreUsed used (a ∷ rest) = (page_used_in used a ≡ true) × AreUsed used rest

-- the stores to memory among the accesses lie in used pages
abbrev pub StoresAreUsed : Contents → List Access → Type 0
StoresAreUsed c accesses = AreUsed c.used (stored_to c.banks accesses)
