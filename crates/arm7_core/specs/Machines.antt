-- One step of the machine over a bus: the defined step of its state, over the bus after one tick. This project's.
use Rattle.std.specs.Prelude.{◌≡◌, ℕ, Bool, true, false, Some}
use Rattle.sdt_outside.specs.declared.device.Lines.{Lines}
use Rattle.arm7_model.specs.declared.state.ArmState.{ArmState}
use Rattle.arm7_model.specs.declared.event.Event.{Event}
use Rattle.arm7_model.specs.declared.event.Event.TheVariants.{NoFrame}
use Rattle.arm7_model.specs.Outcomes.{Stepped}
use Rattle.arm7_model.specs.Step.{Levels, Step, fetch_width}
use Rattle.arm7_model.specs.Registers.{is_thumb, register}
use Rattle.arm7_bus.specs.Buses.{after_read, after_tick}
use Rattle.arm7_bus.specs.Seats.{lines_up}
use Rattle.arm7_bus.specs.States.{State}
use Rattle.arm7_transfers.specs.Boards.{board_of, over}
use Rattle.arm7_transfers.specs.Frames.{has_frames, least_unused, stored_to}
use Rattle.arm7_transfers.specs.Served.{answers_to, served}

-- the lines that devices raise, as the processor sees them
abbrev pub levels : Lines → Levels
levels lines = record { irq = lines.irq; fiq = lines.fiq }

-- how the defined step `first` ends over a bus: as it does, where there are frames for the pages that it stores to;
-- else with the least address of those stores whose page isn't used, and of its accesses the fetch alone is made
abbrev pub Ends : Bool → ArmState → State → Stepped → Event → ArmState → State → Type 0
Ends true core s first e core' s' = (e ≡ first.event) × (over core' s' ≡ first.state) × (s' ≡ served s first.accesses)
Ends false core s first e core' s' =
    (a : ℕ) × (e ≡ NoFrame a)
    × (least_unused s.contents.used (stored_to s.contents.banks first.accesses) ≡ Some a)
    × (core' ≡ core) × (s' ≡ after_read s (register core 15) (fetch_width (is_thumb core.cpsr)))

-- From these registers and this bus after its tick, the step ends so.
pub record IsStepFrom (core : ArmState) (s : State) (e : Event) (core' : ArmState) (s' : State) : Type 0 where
  pub first : Stepped
  pub step : Step (board_of s) (over core s) (levels (lines_up s.devices)) (answers_to s first.accesses) first
  pub ends : Ends (has_frames s first.accesses) core s first e core' s'

-- From these registers and this bus, the machine's step ends so.
abbrev pub IsStep : ArmState → State → Event → ArmState → State → Type 0
IsStep core s e core' s' = IsStepFrom core (after_tick s) e core' s'
