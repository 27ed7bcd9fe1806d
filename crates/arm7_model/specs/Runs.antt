-- Several steps, over what each of them is given (this project's).
use Rattle.std.specs.Prelude.{ℕ, zero, suc, false, List, [], ◌∷◌, map}
use Rattle.arm7_model.specs.declared.event.Event.{Event}
use Rattle.arm7_model.specs.declared.event.Event.TheVariants as event
use Rattle.arm7_model.specs.Memory.{Board}
use Rattle.arm7_model.specs.Registers.{State}
use Rattle.arm7_model.specs.Accesses.{Access}
use Rattle.arm7_model.specs.Outcomes.{Stepped}
use Rattle.arm7_model.specs.Step.{Levels, Step}

-- what a step is given: the lines, and the answers of the devices that it reads
pub record Input : Type 0 where
  pub lines : Levels
  pub answers : List ℕ

-- where nothing is given, the lines are down and no device answers
abbrev pub quiet : Input
quiet = record { lines = record { irq = false; fiq = false }; answers = [] }

abbrev pub first_of_inputs : List Input → Input
first_of_inputs [] = quiet
first_of_inputs (i ∷ is) = i

abbrev pub later_inputs : List Input → List Input
later_inputs [] = []
later_inputs (i ∷ is) = is

-- an ordinary step, an exception, or a software interrupt of the host
abbrev pub IsCounted : Event → Type 0
IsCounted event.Ran = Unit {0}
IsCounted (event.Took e) = Unit {0}
IsCounted (event.Host n) = Unit {0}
IsCounted (event.Unpredictable w) = ⊥
IsCounted (event.NoFrame a) = ⊥

-- n steps lead from s to t, with the accesses of each
pub data After (board : Board) : State → ℕ → List Input → List (List Access) → State → Type 0 where
  stays : {s : State} {inputs : List Input} → After board s zero inputs [] s
  goes : {s t : State} {n : ℕ} {inputs : List Input} {rest : List (List Access)} (first : Stepped)
      → Step board s (first_of_inputs inputs).lines (first_of_inputs inputs).answers first
      → IsCounted first.event
      → After board first.state n (later_inputs inputs) rest t
      → After board s (suc n) inputs (first.accesses ∷ rest) t

-- the accesses of each step keep P
abbrev pub EachStep : (List Access → Type 0) → List (List Access) → Type 0
EachStep P [] = Unit {0}
EachStep P (accesses ∷ rest) = P accesses × EachStep P rest

-- ---- the steps one by one

-- each is the step behind those before it, from s on, over what it is given, and counts
abbrev pub AreSteps : Board → State → List Input → List Stepped → Type 0
AreSteps board s inputs [] = Unit {0}
AreSteps board s inputs (x ∷ xs) =
    Step board s (first_of_inputs inputs).lines (first_of_inputs inputs).answers x
    × IsCounted x.event × AreSteps board x.state (later_inputs inputs) xs

-- the state behind them, and their accesses
abbrev pub behind : State → List Stepped → State
behind s [] = s
behind s (x ∷ xs) = behind x.state xs

abbrev pub accesses_of : List Stepped → List (List Access)
accesses_of steps = map (λ x. x.accesses) steps
