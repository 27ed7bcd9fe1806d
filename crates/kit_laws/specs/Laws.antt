-- The law of the interrupt handler, over the model's steps. This project's.
use Rattle.std.specs.Prelude.{◌≡◌, ℕ, ◌+◌, false, List, [], ◌∷◌, map}
use Rattle.sdt_word.specs.Bytes.{word}
use Rattle.arm7_model.specs.Memory.{Board}
use Rattle.arm7_model.specs.Outcomes.{Stepped}
use Rattle.arm7_model.specs.Registers.{IsValidState, State}
use Rattle.arm7_model.specs.Runs.{AreSteps, Input}
use Rattle.kit_laws.specs.Aligned.{Aligned}
use Rattle.kit_laws.specs.Beside.{Scratch, beside}
use Rattle.kit_laws.specs.Handler.{IsKit}
use Rattle.kit_laws.specs.Rules.{FiqIsDown, KeepsRules, MayExit}
use Rattle.kit_laws.specs.Struck.{AreMoments, struck}

-- a run from s hides its interrupts: struck, it is the run without interrupts, its count word counts those that were
-- returned from, and each takes twelve steps
pub record HidesInterrupts (b : Board) (work ack : ℕ) (s : State) (steps : List Stepped) : Type 0 where
  pub plain : List Stepped
  pub run : AreSteps b s [] plain
  pub moments : AreMoments work (word s.memory (work + 8)) (struck false 0 s steps) (s ∷ map (λ x. x.state) plain)
  pub first : Scratch
  pub same : beside work first s ≡ s
  pub aligned : Aligned b work ack first s steps plain

-- a program that keeps the rules, with its interrupts and without FIQ, up to SWI 0x11
pub record MayBeInterrupted (b : Board) (work : ℕ) (s : State) (inputs : List Input) (steps : List Stepped) : Type 0 where
  pub valid : IsValidState s
  pub rules : KeepsRules b work s
  pub down : FiqIsDown inputs
  pub run : AreSteps b s inputs steps
  pub exits : MayExit steps

-- the run of a program over the handler hides its interrupts
abbrev pub RunsAreTransparent : Type 0
RunsAreTransparent =
    (b : Board) (work ack : ℕ) (s : State) (inputs : List Input) (steps : List Stepped)
    → IsKit b work ack s.memory → MayBeInterrupted b work s inputs steps → HidesInterrupts b work ack s steps
