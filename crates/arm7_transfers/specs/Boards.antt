-- The machine's view of a bus: which addresses are memory, a device's or read-only, and what a step acts on. This
-- project's.
use Rattle.std.specs.Prelude.{ℕ, List}
use Rattle.arm7_model.specs.declared.state.ArmState.{ArmState}
use Rattle.arm7_model.specs.Memory.{Board}
use Rattle.arm7_model.specs.Registers.{State as Whole}
use Rattle.arm7_model.specs.Accesses.{Access, Working}
use Rattle.arm7_bus.specs.Meets.{seats_have}
use Rattle.arm7_bus.specs.States.{State, bank_has, protected_at}

-- the board that a bus makes
unfoldable pub board_of : State → Board
board_of s = record {
  memory = λ a. bank_has s.contents.banks a 1;
  device = λ a. seats_have s.devices a;
  read_only = λ a. protected_at s.contents.banks a;
}

-- registers over the memory of a bus
abbrev pub over : ArmState → State → Whole
over core s = record { core = core; memory = s.contents.memory }

-- an instruction under way over a bus, with the answers that are still to come and the accesses made
abbrev pub working : ArmState → State → List ℕ → List Access → Working
working core s answers accesses = record { core = core; memory = s.contents.memory; answers = answers; accesses = accesses }
