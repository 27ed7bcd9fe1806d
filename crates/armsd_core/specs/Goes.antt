-- The steps of a debugger's Step and Go, and why a Go pauses. This project's.
use Rattle.std.specs.Prelude.{◌≡◌, ℕ, zero, suc, ◌+◌, ◌<◌, Bool, true, false, ◌&&◌, List, [], ◌++◌, Option, Some, None}
use Rattle.std.specs.List.{list_any}
use Rattle.sdt_fault.specs.declared.answer.Stop.{Stop}
use Rattle.sdt_word.specs.declared.ranges.Range32.{Range32}
use Rattle.arm7_model.specs.declared.state.ArmState.{ArmState}
use Rattle.arm7_model.specs.Registers.{register}
use Rattle.arm7_bus.specs.Meets.{IsLeast, IsNowhere}
use Rattle.arm7_bus.specs.Seats.{has_access}
use Rattle.arm7_bus.specs.States.{State}
use Rattle.arm7_run.specs.Runs.{Leads, Runs}
use Rattle.armsd_core.specs.declared.reason.Reason.{Reason}
use Rattle.armsd_core.specs.declared.reason.Reason.TheVariants as reason
use Rattle.armsd_core.specs.Points.{is_point}
use Rattle.armsd_core.specs.Reasons.{lasting, reason_of}

-- the watched range, if there is one, and one of the stores have the address
abbrev pub is_hit : Option Range32 → List (ℕ × ℕ) → ℕ → Bool
is_hit None stores a = false
is_hit (Some r) stores a = has_access r.base r.size a 1 && list_any (λ s. has_access s.0 s.1 a 1) stores

-- why a Go pauses behind a step that goes on, by the address where it leads and by its stores
abbrev pub IsPause : List ℕ → Option Range32 → ℕ → List (ℕ × ℕ) → Option Reason → Type 0
IsPause points watch pc stores (Some (reason.Watch a)) = IsLeast (is_hit watch stores) a
IsPause points watch pc stores (Some reason.Break) = IsNowhere (is_hit watch stores) × (is_point points pc ≡ true)
IsPause points watch pc stores (Some other) = ⊥
IsPause points watch pc stores None = IsNowhere (is_hit watch stores) × (is_point points pc ≡ false)

-- a Step of so many
abbrev pub Steps : ArmState → State → ℕ → Reason → ℕ → List ℕ → ArmState → State → Type 0
Steps core s n told made text core' s' = (why : Stop) × (reason_of why ≡ Some told) × Runs n core s why made text core' s'

-- steps that go on, behind none of which a Go pauses, lead from registers and a bus to others, and print a text
pub data Passes (points : List ℕ) (watch : Option Range32) (core : ArmState) (s : State) : ℕ → List ℕ → ArmState → State → Type 0 where
  begins : Passes points watch core s zero [] core s
  passes : {n : ℕ} {text : List ℕ} (piece : List ℕ) {core1 core2 : ArmState} {s1 s2 : State}
      → Passes points watch core s n text core1 s1 → Leads core1 s1 1 piece core2 s2
      → IsPause points watch (register core2 15) s2.contents.stores None
      → Passes points watch core s (suc n) (text ++ piece) core2 s2

-- A Go of at most so many: all were made; or it pauses behind one; or the machine stops for good.
pub data Goes (points : List ℕ) (watch : Option Range32) (core : ArmState) (s : State) (most : ℕ)
    : Reason → ℕ → List ℕ → ArmState → State → Type 0 where
  counted : {text : List ℕ} {core1 : ArmState} {s1 : State}
      → Passes points watch core s most text core1 s1 → Goes points watch core s most reason.Count most text core1 s1
  pauses : {n : ℕ} {text : List ℕ} (piece : List ℕ) {core1 core2 : ArmState} {s1 s2 : State} (why : Reason)
      → n < most → Passes points watch core s n text core1 s1 → Leads core1 s1 1 piece core2 s2
      → IsPause points watch (register core2 15) s2.contents.stores (Some why)
      → Goes points watch core s most why (suc n) (text ++ piece) core2 s2
  halts : {n : ℕ} {text : List ℕ} (piece : List ℕ) {core1 core2 : ArmState} {s1 s2 : State} (why : Reason) (last : ℕ)
      → n < most → Passes points watch core s n text core1 s1 → lasting why ≡ Some why → Steps core1 s1 1 why last piece core2 s2
      → Goes points watch core s most why (n + last) (text ++ piece) core2 s2
