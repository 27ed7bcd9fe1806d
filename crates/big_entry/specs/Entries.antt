-- How the startup code enters a generated source's program. This project's.
use Rattle.std.specs.Prelude.{ℕ, ◌≤◌, Bool, List}
use Rattle.arm7_model.specs.Memory.{Board}
use Rattle.arm7_model.specs.Outcomes.{Stepped}
use Rattle.arm7_model.specs.Registers.{State}
use Rattle.arm7_model.specs.Runs.{Input, behind}
use Rattle.big_model.specs.Words.{code_words}
use Rattle.big_run.specs.Runs.{IsEntered}
use Rattle.boot_code.specs.Boots.{BootSteps, ByteMap, CanStart, HoldsWords}

-- steps that lead from a permitted state to address 0, where the view has the program, enter it
abbrev pub ProgramIsEntered : Type 0
ProgramIsEntered =
    (n k start : ℕ) (files view : ByteMap) (written : ℕ → Bool) (board : Board) (s : State) (inputs : List Input) (steps : List Stepped)
    → n ≤ 50000 → HoldsWords view 0 (code_words n) → CanStart files view written start board s
    → BootSteps k files view 0 board s inputs steps → IsEntered n 0 board (behind s steps)
