-- States that differ only in what an interrupt handler may leave changed: IRQ mode's banked registers and SPSR (ARM
-- Architecture Reference Manual, programmer's model), and the twelve bytes of the handler's work area (this project's).
use Rattle.std.specs.Prelude.{◌≡◌, ℕ, List, slice_set, length}
use Rattle.arm7_model.specs.declared.state.ArmState.{ArmState}
use Rattle.arm7_model.specs.Accesses.{Working}
use Rattle.arm7_model.specs.Memory.{store}
use Rattle.arm7_model.specs.Outcomes.{Stepped, Under}
use Rattle.arm7_model.specs.Registers.{State}

-- what an interrupt may leave changed
pub record Scratch : Type 0 where
  pub r13 : ℕ
  pub r14 : ℕ
  pub saved : ℕ
  pub bytes : List ℕ
  pub twelve : length bytes ≡ 12

unfoldable pub with_irq : Scratch → ArmState → ArmState
with_irq k s = record s {
  banks = record s.banks { r13 = slice_set s.banks.r13 2 k.r13; r14 = slice_set s.banks.r14 2 k.r14 };
  spsr = slice_set s.spsr 1 k.saved;
}

-- the state with these in the place of its own, where the work area begins at `work`
abbrev pub beside : ℕ → Scratch → State → State
beside work k s = record { core = with_irq k s.core; memory = store s.memory work k.bytes }

-- the same of an instruction under way, which may get other answers, of what it stands under, and of a step
abbrev pub besides : ℕ → Scratch → List ℕ → Working → Working
besides work k answers w =
    record { core = with_irq k w.core; memory = store w.memory work k.bytes; answers = answers; accesses = w.accesses }

abbrev pub beside_under : ℕ → Scratch → Under → Under
beside_under work k u = record { board = u.board; before = beside work k u.before; word = u.word }

abbrev pub beside_step : ℕ → Scratch → Stepped → Stepped
beside_step work k t = record { state = beside work k t.state; event = t.event; accesses = t.accesses }
