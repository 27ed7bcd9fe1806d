-- The struck run: a run with interrupts without the states in which it takes them or stands in the handler. And what it
-- shares with the run without interrupts. This project's.
use Rattle.std.specs.Prelude.{◌≡◌, ◌≢◌, ℕ, ◌+◌, ◌%◌, ◌^◌, ◌==◌, Bool, true, false, if◌then◌else◌, List, [], ◌∷◌, slice_index}
use Rattle.sdt_word.specs.Bytes.{word}
use Rattle.sdt_word.specs.Numbers.{bits}
use Rattle.arm7_model.specs.declared.event.Event.{Event}
use Rattle.arm7_model.specs.declared.event.Event.TheVariants as event
use Rattle.arm7_model.specs.declared.event.Exception.TheVariants as exception
use Rattle.arm7_model.specs.Outcomes.{Stepped}
use Rattle.arm7_model.specs.Registers.{State}
use Rattle.kit_laws.specs.Rules.{IsOff}

abbrev pub took_irq : Event → Bool
took_irq (event.Took exception.Irq) = true
took_irq _ = false

abbrev pub in_irq : State → Bool
in_irq s = bits s.core.cpsr 0 5 == 0x12

-- a moment outside the handler, with how many interrupts were taken and returned from before it
pub record Moment : Type 0 where
  pub state : State
  pub returned : ℕ

-- the moments of a run that stands at s, in the handler or not, behind n interrupts. The state before a step that takes
-- IRQ isn't one, nor is any up to the return, which is the step that leaves IRQ mode.
abbrev pub struck : Bool → ℕ → State → List Stepped → List Moment
struck true n s [] = []
struck false n s [] = record { state = s; returned = n } ∷ []
struck true n s (x ∷ xs) =
    if in_irq x.state then struck true n x.state xs else struck false (n + 1) x.state xs
struck false n s (x ∷ xs) =
    if took_irq x.event then struck true n x.state xs
    else record { state = s; returned = n } ∷ struck false n x.state xs

-- the visible registers, the banks and SPSRs of all modes but IRQ's, CPSR, and memory off the work area are the same
pub record Agree (work : ℕ) (p t : State) : Type 0 where
  pub visible : t.core.r ≡ p.core.r
  pub cpsr : t.core.cpsr ≡ p.core.cpsr
  pub high : t.core.banks.high ≡ p.core.banks.high
  pub r13 : (k : ℕ) → k ≢ 2 → slice_index t.core.banks.r13 k ≡ slice_index p.core.banks.r13 k
  pub r14 : (k : ℕ) → k ≢ 2 → slice_index t.core.banks.r14 k ≡ slice_index p.core.banks.r14 k
  pub saved : (k : ℕ) → k ≢ 1 → slice_index t.core.spsr k ≡ slice_index p.core.spsr k
  pub memory : (x : ℕ) → IsOff work x → t.memory x ≡ p.memory x

-- the moments beside the states of the run without interrupts: they agree, and the count word, the last of the work
-- area, is what it was at first plus the interrupts; a run that ends in an interrupt lacks the state at which it came
abbrev pub AreMoments : ℕ → ℕ → List Moment → List State → Type 0
AreMoments work first [] [] = Unit {0}
AreMoments work first [] (p ∷ []) = Unit {0}
AreMoments work first [] (p ∷ q ∷ ps) = ⊥
AreMoments work first (t ∷ ts) [] = ⊥
AreMoments work first (t ∷ ts) (p ∷ ps) =
    Agree work p t.state × (word t.state.memory (work + 8) ≡ (first + t.returned) % 2 ^ 32) × AreMoments work first ts ps
