-- The laws of runs, as the empty public functions state them. This project's.
use Rattle.std.specs.Prelude.{◌≡◌, ℕ, ◌≤◌, List, length, take}
use Rattle.sdt_fault.specs.declared.kinds.Quantity.{Quantity}
use Rattle.sdt_fault.specs.declared.refusal.Refusal.TheVariants.{TooLarge}
use Rattle.sdt_fault.specs.declared.answer.Stop.{Stop}
use Rattle.sdt_fault.specs.declared.answer.Stop.TheVariants as stop
use Rattle.arm7_model.specs.declared.state.ArmState.{ArmState}
use Rattle.arm7_model.specs.declared.event.Event.{Event}
use Rattle.arm7_model.specs.Accesses.{Access}
use Rattle.arm7_model.specs.Outcomes.{Stepped}
use Rattle.arm7_model.specs.Registers.{IsValid, IsValidState}
use Rattle.arm7_model.specs.Runs.{AreSteps, EachStep, accesses_of, behind}
use Rattle.arm7_bus.specs.declared.memory.Bank.{Bank}
use Rattle.arm7_bus.specs.Seats.{Seat}
use Rattle.arm7_bus.specs.States.{State}
use Rattle.arm7_bus.specs.Touches.{pages_touched}
use Rattle.arm7_core.specs.Machines.{IsStep}
use Rattle.arm7_transfers.specs.Boards.{board_of, over}
use Rattle.arm7_transfers.specs.Ready.{IsReady}
use Rattle.arm7_run.specs.Runs.{Leads, Runs}
use Rattle.run_opening.specs.declared.image.Image.{Image}
use Rattle.run_opening.specs.declared.image.Need.{Need}
use Rattle.run_opening.specs.Banks.{IsDefect, IsRoomy}
use Rattle.run_opening.specs.Openings.{IsOpening}
use Rattle.kit_laws.specs.Handler.{IsKit}
use Rattle.kit_laws.specs.Rules.{KeepsRules}
use Rattle.run_laws.specs.Boards.{IsBoard}
use Rattle.run_laws.specs.Devices.{AreOffDevices, lines_for, ticked_for, touches_of}
use Rattle.run_laws.specs.Silent.{AreQuiet, AreSilent, HasWork}
use Rattle.run_laws.specs.Steps.{AreMade, IsRunOf, Print, StoresAreUsed, given_by, left_by, steps_made}

-- registers and a bus have at most one step
abbrev pub BusStepIsOne : Type 0
BusStepIsOne =
    (core : ArmState) (s : State) (d e : Event) (core1 core2 : ArmState) (s1 s2 : State) → IsReady s → IsValid core
    → IsStep core s d core1 s1 → IsStep core s e core2 s2 → (d ≡ e) × (core1 ≡ core2) × (s1 ≡ s2)

-- and at most one run, with its end and its text
abbrev pub BusRunIsOne : Type 0
BusRunIsOne =
    (most : ℕ) (core : ArmState) (s : State) (why why' : Stop) (made made' : ℕ) (text text' : List ℕ) (core1 core2 : ArmState) (s1 s2 : State)
    → IsReady s → IsValidState (over core s)
    → Runs most core s why made text core1 s1 → Runs most core s why' made' text' core2 s2
    → (why ≡ why') × (made ≡ made') × (text ≡ text') × (core1 ≡ core2) × (s1 ≡ s2)

-- the board of a bus that is ready is one
abbrev pub BoardIsOne : Type 0
BoardIsOne = (s : State) → IsReady s → IsBoard (board_of s)

-- a run over a bus is one of the model, with the lines and answers of the devices themselves
abbrev pub BusRunsAreRuns : Type 0
BusRunsAreRuns =
    (core : ArmState) (s : State) (n : ℕ) (text : List ℕ) (core' : ArmState) (s' : State) → IsReady s
    → Leads core s n text core' s' → (steps : List Stepped) × IsRunOf core s n text core' s' steps

-- and such a run of the model is one over the bus, where all stores to memory lie in used pages
abbrev pub RunsAreBusRuns : Type 0
RunsAreBusRuns =
    (core : ArmState) (s : State) (text : List ℕ) (steps : List Stepped) → IsReady s
    → AreSteps (board_of s) (over core s) (given_by s (accesses_of steps)) steps → Print s steps text
    → EachStep (StoresAreUsed s.contents) (accesses_of steps)
    → (core' : ArmState) × (s' : State) × Leads core s (length steps) text core' s' × IsRunOf core s (length steps) text core' s' steps

-- its steps are those that the machine makes, whatever the host does behind them
abbrev pub StepsAreMade : Type 0
StepsAreMade =
    (core : ArmState) (s : State) (steps : List Stepped) → IsReady s
    → AreSteps (board_of s) (over core s) (given_by s (accesses_of steps)) steps
    → EachStep (StoresAreUsed s.contents) (accesses_of steps)
    → (core' : ArmState) × (s' : State) × AreMade core s steps core' s'
    × (behind (over core s) steps ≡ over core' s') × (s' ≡ left_by s (accesses_of steps))

-- of two lists of steps that the machine makes from one place, the shorter is the beginning of the longer
abbrev pub MadeStepsAreOne : Type 0
MadeStepsAreOne =
    (core : ArmState) (s : State) (xs ys : List Stepped) (core1 core2 : ArmState) (s1 s2 : State) → IsReady s → IsValidState (over core s)
    → AreMade core s xs core1 s1 → AreMade core s ys core2 s2 → length xs ≤ length ys → xs ≡ take (length xs) ys

-- steps that access no device: they are given the devices' lines alone, and leave devices as time alone makes them, with
-- their counts of accesses
abbrev pub DevicesAreLeft : Type 0
DevicesAreLeft =
    (s : State) (xs : List (List Access)) → EachStep (AreOffDevices (board_of s)) xs
    → (given_by s xs ≡ lines_for (length xs) s.devices)
    × ((left_by s xs).devices ≡ ticked_for (length xs) s.devices)
    × (touches_of (left_by s xs).devices ≡ touches_of s.devices)

-- a run whose steps, with a last one that doesn't count, access no device: it leaves devices as time alone makes them, with
-- their counts of accesses
abbrev pub RunLeavesDevices : Type 0
RunLeavesDevices =
    (most : ℕ) (core : ArmState) (s : State) (why : Stop) (made : ℕ) (text : List ℕ) (core' : ArmState) (s' : State) → IsReady s
    → Runs most core s why made text core' s'
    → (steps : List Stepped) × (length steps ≡ steps_made why made) × AreMade core s steps core' s'
    × (EachStep (AreOffDevices (board_of s)) (accesses_of steps)
    → (s'.devices ≡ ticked_for (steps_made why made) s.devices) × (touches_of s'.devices ≡ touches_of s.devices))

-- where a program with the handler keeps the rules until it exits, and its run over devices ends by Exit, the run over
-- silent devices ends by Exit too, with the same text and no more steps
abbrev pub ExitsAlike : Type 0
ExitsAlike =
    (work ack most made : ℕ) (core core_t' : ArmState) (q t t' : State) (text : List ℕ)
    → IsReady q → IsReady t → AreSilent q.devices → HasWork work ack t.contents → t.contents ≡ q.contents → board_of t ≡ board_of q
    → IsKit (board_of q) work ack q.contents.memory → IsValidState (over core q) → KeepsRules (board_of q) work (over core q)
    → Runs most core t stop.Exit made text core_t' t'
    → (made' : ℕ) × (made' ≤ made) × (core_q' : ArmState) × (q' : State) × Runs most core q stop.Exit made' text core_q' q'

-- so it is where quiet steps lead to that program, whatever they leave in the handler's memory
abbrev pub StartedExitsAlike : Type 0
StartedExitsAlike =
    (work ack most made : ℕ) (core core_t' : ArmState) (q t t' : State) (steps : List Stepped) (text : List ℕ)
    → IsReady q → IsReady t → AreSilent q.devices → HasWork work ack t.contents → t.contents ≡ q.contents → board_of t ≡ board_of q
    → IsValidState (over core t) → AreQuiet core t steps → IsKit (board_of q) work ack (behind (over core t) steps).memory
    → KeepsRules (board_of q) work (behind (over core t) steps) → Runs most core t stop.Exit made text core_t' t'
    → (made' : ℕ) × (made' ≤ made) × (core_q' : ArmState) × (q' : State) × Runs most core q stop.Exit made' text core_q' q'

-- banks that touch at most 65,536 pages have frames for every image that lies in them
abbrev pub SmallBanksHaveRoom : Type 0
SmallBanksHaveRoom =
    (banks : List Bank) (seats : List Seat) (needs : List Need) (quantity : Quantity) (limit : ℕ)
    → pages_touched banks 1048576 ≤ 65536 → IsDefect banks seats needs (TooLarge quantity limit) → ⊥

-- and for every store of a run over them, which never ends for want of a frame
abbrev pub SmallBanksHaveFrames : Type 0
SmallBanksHaveFrames =
    (banks : List Bank) (seats : List Seat) (image : Image) (most : ℕ) (core : ArmState) (s : State) (a made : ℕ) (text : List ℕ) (core' : ArmState) (s' : State)
    → pages_touched banks 1048576 ≤ 65536 → IsRoomy banks seats image.needs → IsOpening banks image seats s
    → Runs most core s (stop.NoFrame a) made text core' s' → ⊥
