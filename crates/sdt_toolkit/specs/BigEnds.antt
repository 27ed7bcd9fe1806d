-- How a run over a bus ends that comes to a generated source's program by ordinary steps, which touch no device: it is one run,
-- whatever lines devices raise. This project's.
use Rattle.std.specs.Prelude.{◌≡◌, ℕ, ◌+◌, ◌≤◌, List, [], length}
use Rattle.sdt_fault.specs.declared.answer.Stop.{Stop}
use Rattle.sdt_fault.specs.declared.answer.Stop.TheVariants.{Exit}
use Rattle.arm7_model.specs.declared.state.ArmState.{ArmState}
use Rattle.arm7_model.specs.Outcomes.{Stepped}
use Rattle.arm7_model.specs.Registers.{IsValidState, register}
use Rattle.arm7_model.specs.Runs.{behind}
use Rattle.arm7_bus.specs.States.{State}
use Rattle.arm7_transfers.specs.Boards.{board_of, over}
use Rattle.arm7_transfers.specs.Ready.{IsReady}
use Rattle.arm7_run.specs.Runs.{Runs}
use Rattle.run_laws.specs.Devices.{ticked_for, touches_of}
use Rattle.run_laws.specs.Silent.{AreQuiet}
use Rattle.big_model.specs.Sources.{big_sum}
use Rattle.big_run.specs.Runs.{IsEntered}

-- by SWI 0x11, with n + 3 steps behind those before it, without a text; r4 is the sum, and devices are as time alone makes them
pub record IsBigEnd (n : ℕ) (s : State) (front : List Stepped) (why : Stop) (made : ℕ) (text : List ℕ) (core' : ArmState)
    (s' : State) : Type 0 where
  pub exits : why ≡ Exit
  pub count : made ≡ length front + (n + 3)
  pub unprinted : text ≡ []
  pub sum : register core' 4 ≡ big_sum n
  pub devices : s'.devices ≡ ticked_for made s.devices
  pub touches : touches_of s'.devices ≡ touches_of s.devices

abbrev pub BigRunEnds : Type 0
BigRunEnds =
    (n a most made : ℕ) (core core' : ArmState) (s s' : State) (front : List Stepped) (why : Stop) (text : List ℕ)
    → n ≤ 50000 → IsReady s → IsValidState (over core s) → AreQuiet core s front → IsEntered n a (board_of s) (behind (over core s) front)
    → length front + (n + 3) ≤ most → Runs most core s why made text core' s'
    → IsBigEnd n s front why made text core' s'
