-- Which steps of a run with interrupts stand beside which steps of the run without them, and what stands between. This
-- project's.
use Rattle.std.specs.Prelude.{◌≡◌, ℕ, ◌+◌, ◌<◌, ◌⊎◌, List, [], ◌∷◌, ◌++◌, length}
use Rattle.std.specs.List.{AllByRecursion}
use Rattle.sdt_word.specs.declared.codes.Width.TheVariants.{Word}
use Rattle.arm7_model.specs.declared.event.Event.TheVariants as event
use Rattle.arm7_model.specs.declared.event.Exception.TheVariants as exception
use Rattle.arm7_model.specs.Accesses.{Access, Fetch, Load, Store}
use Rattle.arm7_model.specs.Memory.{Board}
use Rattle.arm7_model.specs.Outcomes.{Stepped}
use Rattle.arm7_model.specs.Registers.{State}
use Rattle.arm7_model.specs.Runs.{behind}
use Rattle.kit_laws.specs.Beside.{Scratch, beside, beside_step}
use Rattle.kit_laws.specs.Rules.{IsOwnStep}

-- the handler stores whole words, into its work area or to the device that it acknowledges to
abbrev pub IsHandlers : ℕ → ℕ → Access → Type 0
IsHandlers work ack (Fetch a w) = Unit {0}
IsHandlers work ack (Load a w) = Unit {0}
IsHandlers work ack (Store a w v) = (w ≡ Word) × ((a ≡ work) ⊎ (a ≡ work + 4) ⊎ (a ≡ work + 8) ⊎ (a ≡ ack))

pub record IsInHandler (work ack : ℕ) (x : Stepped) : Type 0 where
  pub ran : x.event ≡ event.Ran
  pub accesses : AllByRecursion (IsHandlers work ack) x.accesses

-- the step that takes IRQ, which accesses nothing, and the handler's steps behind it
pub record IsInterrupt (work ack : ℕ) (x : Stepped) (xs : List Stepped) : Type 0 where
  pub taken : x.event ≡ event.Took exception.Irq
  pub silent : x.accesses ≡ []
  pub handler : AllByRecursion (IsInHandler work ack) xs

-- A run from beside p, and the run without interrupts from p: each step of its own has one beside it. What stands
-- between are interrupts of twelve steps, which lead back beside the state before them; the last may be cut off.
pub data Aligned (b : Board) (work ack : ℕ) : Scratch → State → List Stepped → List Stepped → Type 0 where
  ends : {k : Scratch} {p : State} → Aligned b work ack k p [] []
  stops : {k : Scratch} {p : State} (x : Stepped) (xs : List Stepped) → IsInterrupt work ack x xs → length xs < 11
      → Aligned b work ack k p (x ∷ xs) []
  goes : {k : Scratch} {p : State} {xs ps : List Stepped} (x : Stepped) → IsOwnStep b work x
      → Aligned b work ack k x.state xs ps → Aligned b work ack k p (beside_step work k x ∷ xs) (x ∷ ps)
  returns : {k : Scratch} {p : State} {zs ps : List Stepped} (l : Scratch) (x : Stepped) (xs : List Stepped)
      → IsInterrupt work ack x xs → length xs ≡ 11 → behind x.state xs ≡ beside work l p
      → Aligned b work ack l p zs ps → Aligned b work ack k p (x ∷ (xs ++ zs)) ps
