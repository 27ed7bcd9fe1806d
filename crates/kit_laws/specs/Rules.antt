-- The rules for a program that an interrupt handler may interrupt: what its own steps, without interrupts, leave alone.
-- This project's.
use Rattle.std.specs.Prelude.{◌≡◌, ◌≢◌, ℕ, ◌+◌, ◌%◌, ◌^◌, ◌<◌, ◌≤◌, false, ◌⊎◌, List, [], ◌∷◌}
use Rattle.std.specs.List.{AllByRecursion}
use Rattle.sdt_word.specs.Codes.{bytes_in}
use Rattle.sdt_word.specs.Numbers.{bits}
use Rattle.arm7_model.specs.declared.event.Event.TheVariants as event
use Rattle.arm7_model.specs.Accesses.{Access, Fetch, Load, Store}
use Rattle.arm7_model.specs.Memory.{Board}
use Rattle.arm7_model.specs.Outcomes.{Stepped}
use Rattle.arm7_model.specs.Registers.{State, register}
use Rattle.arm7_model.specs.Runs.{AreSteps, Input, IsCounted, behind, quiet}
use Rattle.arm7_model.specs.Step.{Step}

-- ---- addresses and accesses

-- an address off the work area, which has twelve bytes
abbrev pub IsOff : ℕ → ℕ → Type 0
IsOff work x = (x < work) ⊎ (work + 12 ≤ x)

-- an address that the program may use: off the work area, and no device's
pub record IsPlain (b : Board) (work x : ℕ) : Type 0 where
  pub off : IsOff work x
  pub device : b.device x ≡ false

-- each of the n addresses from a on
abbrev pub EachFrom : (ℕ → Type 0) → ℕ → ℕ → Type 0
EachFrom P a n = (i : ℕ) → i < n → P (a + i)

-- an access of the program's own, which stores nothing below 0x50, where vectors and handler stand
abbrev pub IsOwn : Board → ℕ → Access → Type 0
IsOwn b work (Fetch a w) = EachFrom (IsPlain b work) a (bytes_in w)
IsOwn b work (Load a w) = EachFrom (IsPlain b work) a (bytes_in w)
IsOwn b work (Store a w v) = EachFrom (IsPlain b work) a (bytes_in w) × (0x50 ≤ a)

-- ---- steps

-- the mode isn't IRQ's
abbrev pub IsOutOfIrq : State → Type 0
IsOutOfIrq s = bits s.core.cpsr 0 5 ≢ 0x12

-- the string at r0, which SWI 0x02 prints, lies off the work area, its end included
abbrev pub HasOwnString : ℕ → State → Type 0
HasOwnString work s =
    (n : ℕ) → n < 2 ^ 32 → ((k : ℕ) → k < n → s.memory ((register s.core 0 + k) % 2 ^ 32) ≢ 0)
    → IsOff work ((register s.core 0 + n) % 2 ^ 32)

-- a step of the program's own: it meets no unpredictable case, and doesn't enter IRQ mode
pub record IsOwnStep (b : Board) (work : ℕ) (x : Stepped) : Type 0 where
  pub accesses : AllByRecursion (IsOwn b work) x.accesses
  pub counted : IsCounted x.event
  pub mode : IsOutOfIrq x.state
  pub string : x.event ≡ event.Host 0x02 → HasOwnString work x.state

-- ---- runs

-- none of the steps is SWI 0x11, and none but the last
abbrev pub GoOn : List Stepped → Type 0
GoOn steps = AllByRecursion (λ x. x.event ≢ event.Host 0x11) steps

abbrev pub MayExit : List Stepped → Type 0
MayExit [] = Unit {0}
MayExit (x ∷ []) = Unit {0}
MayExit (x ∷ y ∷ ys) = (x.event ≢ event.Host 0x11) × MayExit (y ∷ ys)

-- from s on, without interrupts and up to SWI 0x11, each step is the program's own
pub record KeepsRules (b : Board) (work : ℕ) (s : State) : Type 0 where
  pub mode : IsOutOfIrq s
  pub step : (front : List Stepped) (x : Stepped) → AreSteps b s [] front → GoOn front
      → Step b (behind s front) quiet.lines quiet.answers x → IsOwnStep b work x

-- no FIQ is up
abbrev pub FiqIsDown : List Input → Type 0
FiqIsDown inputs = AllByRecursion (λ i. i.lines.fiq ≡ false) inputs
