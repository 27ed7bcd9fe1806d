-- Devices that raise no interrupt line, the memory that an interrupt handler needs, and steps that no device sees. This
-- project's.
use Rattle.std.specs.Prelude.{◌≡◌, ℕ, ◌+◌, true, false, List, map}
use Rattle.std.specs.List.{AllByRecursion}
use Rattle.arm7_model.specs.declared.state.ArmState.{ArmState}
use Rattle.arm7_model.specs.declared.event.Event.TheVariants as event
use Rattle.arm7_model.specs.Outcomes.{Stepped}
use Rattle.arm7_model.specs.Runs.{AreSteps, EachStep, accesses_of}
use Rattle.arm7_bus.specs.Paging.{page_used_in}
use Rattle.arm7_bus.specs.Seats.{Seat, lines_up, seat_ticked}
use Rattle.arm7_bus.specs.States.{Contents, State, bank_has}
use Rattle.arm7_transfers.specs.Boards.{board_of, over}
use Rattle.run_laws.specs.Devices.{AreOffDevices}
use Rattle.run_laws.specs.Steps.{StoresAreUsed, given_by}

-- devices that stay as they are at each step of time, and raise no line
pub record AreSilent (seats : List Seat) : Type 0 where
  pub still : map seat_ticked seats ≡ seats
  pub down : lines_up seats ≡ record { irq = false; fiq = false }

-- the words of the work area lie in used pages, and no bank has the acknowledge word
pub record HasWork (work ack : ℕ) (c : Contents) : Type 0 where
  pub first : page_used_in c.used work ≡ true
  pub second : page_used_in c.used (work + 4) ≡ true
  pub third : page_used_in c.used (work + 8) ≡ true
  pub device : bank_has c.banks ack 4 ≡ false

-- these are ordinary steps over a bus, which access no device and store to used pages
pub record AreQuiet (core : ArmState) (s : State) (steps : List Stepped) : Type 0 where
  pub are : AreSteps (board_of s) (over core s) (given_by s (accesses_of steps)) steps
  pub ordinary : AllByRecursion (λ x. x.event ≡ event.Ran) steps
  pub off : EachStep (AreOffDevices (board_of s)) (accesses_of steps)
  pub used : EachStep (StoresAreUsed s.contents) (accesses_of steps)
