-- How an instruction's outcome ends a step (ARM Architecture Reference Manual, exceptions; the host's
-- software interrupts and unpredictable instructions are this project's).
use Rattle.std.specs.Prelude.{ℕ, ◌+◌, ◌%◌, ◌^◌}
use Rattle.arm7_model.specs.declared.state.ArmState.{ArmState}
use Rattle.arm7_model.specs.declared.event.Event.{Event}
use Rattle.arm7_model.specs.declared.event.Event.TheVariants as event
use Rattle.arm7_model.specs.declared.event.Exception.TheVariants as exception
use Rattle.arm7_model.specs.Registers.{register, with_register}
use Rattle.arm7_model.specs.Outcomes.{entered}
use Rattle.arm7_transfers.specs.declared.outcome.Outcome.{Outcome}
use Rattle.arm7_transfers.specs.declared.outcome.Outcome.TheVariants.{Ran, Aborted, Unpredictable, Raised, Host, NoFrame}

-- what the step of the instruction with this word was
abbrev pub event_of : Outcome → ℕ → Event
event_of Ran word = event.Ran
event_of Aborted word = event.Took exception.DataAbort
event_of Unpredictable word = event.Unpredictable word
event_of (Raised e) word = event.Took e
event_of (Host n) word = event.Host n
event_of (NoFrame a) word = event.NoFrame a

-- the registers after the step of the instruction at address a, by those that it left
abbrev pub registers_after : Outcome → ℕ → ArmState → ArmState
registers_after Ran a s = s
registers_after Aborted a s = entered exception.DataAbort ((a + 8) % 2 ^ 32) (with_register s 15 a)
registers_after Unpredictable a s = with_register s 15 a
registers_after (Raised e) a s = entered e (register s 15) s
registers_after (Host n) a s = s
registers_after (NoFrame _) a s = with_register s 15 a
