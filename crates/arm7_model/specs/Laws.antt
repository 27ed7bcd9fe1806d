-- The laws of steps and runs, as the empty public functions state them. This project's.
use Rattle.std.specs.Prelude.{◌≡◌, ℕ, ◌+◌, List, ◌++◌, drop, length}
use Rattle.arm7_model.specs.Memory.{Board}
use Rattle.arm7_model.specs.Registers.{State, IsValidState}
use Rattle.arm7_model.specs.Accesses.{Access}
use Rattle.arm7_model.specs.Outcomes.{Stepped}
use Rattle.arm7_model.specs.Step.{Levels, Step}
use Rattle.arm7_model.specs.Runs.{After, AreSteps, Input, accesses_of, behind}

-- a state has at most one step for given lines and answers
abbrev pub StepIsOne : Type 0
StepIsOne =
    (board : Board) (s : State) (lines : Levels) (answers : List ℕ) (x y : Stepped)
    → Step board s lines answers x → Step board s lines answers y → x ≡ y

-- a run of n steps and then one of k, over the inputs that are left, is a run of n + k steps
abbrev pub RunsJoin : Type 0
RunsJoin =
    (board : Board) (s t u : State) (n k : ℕ) (inputs : List Input) (xs ys : List (List Access))
    → After board s n inputs xs t → After board t k (drop n inputs) ys u → After board s (n + k) inputs (xs ++ ys) u

-- and a run splits so behind each of its steps
abbrev pub RunsSplit : Type 0
RunsSplit =
    (board : Board) (s u : State) (n k : ℕ) (inputs : List Input) (xs : List (List Access)) → After board s (n + k) inputs xs u
    → (t : State) × (ys : List (List Access)) × (zs : List (List Access))
    × After board s n inputs ys t × After board t k (drop n inputs) zs u × (xs ≡ ys ++ zs)

-- a run is a list of steps, which show the states and events between, and such a list is a run
abbrev pub RunsShow : Type 0
RunsShow =
    (board : Board) (s t : State) (n : ℕ) (inputs : List Input) (xs : List (List Access)) → After board s n inputs xs t
    → (steps : List Stepped) × AreSteps board s inputs steps
    × (length steps ≡ n) × (accesses_of steps ≡ xs) × (behind s steps ≡ t)

abbrev pub StepsRun : Type 0
StepsRun =
    (board : Board) (s : State) (inputs : List Input) (steps : List Stepped) → AreSteps board s inputs steps
    → After board s (length steps) inputs (accesses_of steps) (behind s steps)

-- runs of one state over the same inputs end alike
abbrev pub RunIsOne : Type 0
RunIsOne =
    (board : Board) (s t u : State) (n : ℕ) (inputs : List Input) (xs ys : List (List Access))
    → After board s n inputs xs t → After board s n inputs ys u → (t ≡ u) × (xs ≡ ys)

-- a step leaves a valid state, and so does a run
abbrev pub StepIsValid : Type 0
StepIsValid =
    (board : Board) (s : State) (lines : Levels) (answers : List ℕ) (t : Stepped)
    → IsValidState s → Step board s lines answers t → IsValidState t.state

abbrev pub RunIsValid : Type 0
RunIsValid =
    (board : Board) (s t : State) (n : ℕ) (inputs : List Input) (xs : List (List Access))
    → IsValidState s → After board s n inputs xs t → IsValidState t
