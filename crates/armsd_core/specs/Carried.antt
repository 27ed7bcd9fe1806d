-- What the steps of a debugger leave, over a sink that takes what they print or a beginning of it. This project's.
use Rattle.std.specs.Prelude.{◌≡◌, ℕ, ◌+◌, ◌<◌, ◌⊎◌, List, Option, Some, None}
use Rattle.sdt_outside.specs.Sinks.{Got}
use Rattle.sdt_word.specs.declared.ranges.Range32.{Range32}
use Rattle.arm7_model.specs.declared.state.ArmState.{ArmState}
use Rattle.arm7_model.specs.Registers.{register}
use Rattle.arm7_bus.specs.States.{State}
use Rattle.arm7_run.specs.Runs.{Chokes, Leads}
use Rattle.armsd_core.specs.declared.reason.Reason.{Reason}
use Rattle.armsd_core.specs.declared.reason.Reason.TheVariants as reason
use Rattle.armsd_core.specs.declared.stepping.Made.{Made}
use Rattle.armsd_core.specs.Goes.{IsPause, Steps}
use Rattle.armsd_core.specs.Reasons.{lasting}

-- where steps may lead, which end for a reason: at most how many, why, how many count, their text, and where
abbrev pub Lead : Type 1
Lead = ℕ → Reason → ℕ → List ℕ → ArmState → State → Type 0

-- the last step of at most so many choked, and the others went on, with their text in the sink
pub record AreChoked (lead : Lead) (most made : ℕ) (core : ArmState) (s : State) (before after : Option (List ℕ)) (rose : Type 0)
    : Type 0 where
  pub count : ℕ
  pub few : count < most
  pub made_is : made ≡ count + 1
  pub text : List ℕ
  pub core1 : ArmState
  pub s1 : State
  pub leads : lead count reason.Count count text core1 s1
  pub middle : Option (List ℕ)
  pub got : Got before middle text
  pub chokes : Chokes core1 s1 core s middle after rose

-- steps were made for a reason; or, where there is none, the sink failed at the text of the last
abbrev pub Makes : Lead → ℕ → Option Reason → ℕ → ArmState → State → Option (List ℕ) → Option (List ℕ) → Type 0 → Type 0
Makes lead most (Some told) made core s before after rose = (text : List ℕ) × lead most told made text core s × Got before after text
Makes lead most None made core s before after rose = AreChoked lead most made core s before after rose

-- a step ends a Go: it pauses behind it, or the machine stops for good
abbrev pub IsLast : List ℕ → Option Range32 → Reason → ℕ → List ℕ → ArmState → State → ArmState → State → Type 0
IsLast points watch why made piece core s core' s' =
    ((made ≡ 1) × Leads core s 1 piece core' s' × IsPause points watch (register core' 15) s'.contents.stores (Some why))
    ⊎ ((lasting why ≡ Some why) × Steps core s 1 why made piece core' s')

-- so it does for a reason, or the sink failed at its text
abbrev pub EndsGo : List ℕ → Option Range32 → Option Reason → ℕ → ArmState → State → ArmState → State
    → Option (List ℕ) → Option (List ℕ) → Type 0 → Type 0
EndsGo points watch (Some why) made core s core' s' before after rose =
    (piece : List ℕ) × IsLast points watch why made piece core s core' s' × Got before after piece
EndsGo points watch None made core s core' s' before after rose = (made ≡ 1) × Chokes core s core' s' before after rose

-- a step of a Go, and what becomes of the Go behind it: it goes on, or ends
abbrev pub GoTurn : List ℕ → Option Range32 → Option Made → ArmState → State → ArmState → State
    → Option (List ℕ) → Option (List ℕ) → Type 0 → Type 0
GoTurn points watch None core s core' s' before after rose =
    (piece : List ℕ) × Leads core s 1 piece core' s' × IsPause points watch (register core' 15) s'.contents.stores None
    × Got before after piece
GoTurn points watch (Some made) core s core' s' before after rose =
    EndsGo points watch made.reason made.steps core s core' s' before after rose
