-- How a step ends: it ran, it took an exception, it is the host's, or it is unpredictable
-- (ARM Architecture Reference Manual, exceptions; the host's software interrupts are this project's).
use Rattle.std.specs.Prelude.{ℕ, ◌+◌, ◌*◌, ◌%◌, ◌^◌, List}
use Rattle.sdt_word.specs.Numbers.{bit, bits}
use Rattle.arm7_model.specs.declared.state.ArmState.{ArmState}
use Rattle.arm7_model.specs.declared.state.Mode.{Mode}
use Rattle.arm7_model.specs.declared.state.Mode.TheVariants as mode
use Rattle.arm7_model.specs.declared.event.Event.{Event}
use Rattle.arm7_model.specs.declared.event.Event.TheVariants as event
use Rattle.arm7_model.specs.declared.event.Exception.{Exception}
use Rattle.arm7_model.specs.declared.event.Exception.TheVariants as exception
use Rattle.arm7_model.specs.Memory.{Board}
use Rattle.arm7_model.specs.Registers.{State, mode_number, register, with_register, with_cpsr, with_saved}
use Rattle.arm7_model.specs.Accesses.{Access, Working}

-- the state after a step, what it was, and its accesses in order
pub record Stepped : Type 0 where
  pub state : State
  pub event : Event
  pub accesses : List Access

-- the board, the state before the step and the word of its instruction
pub record Under : Type 0 where
  pub board : Board
  pub before : State
  pub word : ℕ

-- ---- exceptions

abbrev pub vector : Exception → ℕ
vector exception.Undefined = 0x04
vector exception.SoftwareInterrupt = 0x08
vector exception.PrefetchAbort = 0x0C
vector exception.DataAbort = 0x10
vector exception.Irq = 0x18
vector exception.Fiq = 0x1C

abbrev pub mode_of : Exception → Mode
mode_of exception.Undefined = mode.Undefined
mode_of exception.SoftwareInterrupt = mode.Supervisor
mode_of exception.PrefetchAbort = mode.Abort
mode_of exception.DataAbort = mode.Abort
mode_of exception.Irq = mode.Irq
mode_of exception.Fiq = mode.Fiq

-- bit F after an entry: FIQ sets it
abbrev pub fiq_mask_after : Exception → ℕ → ℕ
fiq_mask_after exception.Fiq status = 1
fiq_mask_after _ status = bit status 6

-- CPSR after an entry: the flags stay, I is set, and T is clear
abbrev pub entry_status : Exception → ℕ → ℕ
entry_status e status = bits status 28 4 * 2 ^ 28 + 2 ^ 7 + fiq_mask_after e status * 2 ^ 6 + mode_number (mode_of e)

-- an exception is entered with this lr: CPSR is saved in the new mode's SPSR
unfoldable pub entered : Exception → ℕ → ArmState → ArmState
entered e link s =
    with_register (with_register (with_saved (with_cpsr s (entry_status e s.cpsr)) s.cpsr) 14 link) 15 (vector e)

-- ---- ends

unfoldable pub ran : Working → Stepped
ran w = record { state = record { core = w.core; memory = w.memory }; event = event.Ran; accesses = w.accesses }

unfoldable pub took : Exception → ℕ → Working → Stepped
took e link w = record {
  state = record { core = entered e link w.core; memory = w.memory };
  event = event.Took e;
  accesses = w.accesses;
}

-- a software interrupt or an undefined instruction: lr is the address of the next instruction
unfoldable pub raised : Exception → Working → Stepped
raised e w = took e (register w.core 15) w

-- an absent access, or a store to a read-only byte: lr is the address and 8, and none of the
-- instruction's accesses and register changes are made
unfoldable pub aborted : Under → Working → Stepped
aborted u w = took exception.DataAbort ((register u.before.core 15 + 8) % 2 ^ 32) (record w { core = u.before.core })

-- a software interrupt of the host changes pc alone
unfoldable pub hosted : ℕ → Working → Stepped
hosted n w = record { state = record { core = w.core; memory = w.memory }; event = event.Host n; accesses = w.accesses }

-- an unpredictable instruction gives the state back; the accesses made stay made
unfoldable pub given_back : Under → Working → Stepped
given_back u w = record { state = u.before; event = event.Unpredictable u.word; accesses = w.accesses }
