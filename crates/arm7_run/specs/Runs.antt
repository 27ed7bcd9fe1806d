-- The run of a machine over a bus: steps that go on, with what the host's interrupts print, and then the stop. The host's
-- interrupts are 0x00, which prints the low byte of r0; 0x02, which prints the string at r0; and 0x11, which ends the
-- run. This project's.
use Rattle.std.specs.Prelude.{◌≡◌, ◌≢◌, ℕ, zero, suc, ◌+◌, ◌%◌, ◌<◌, ◌==◌, Bool, true, false, List, [], ◌∷◌, ◌++◌, Option, MatchBool}
use Rattle.sdt_fault.specs.declared.answer.Stop.{Stop}
use Rattle.sdt_fault.specs.declared.answer.Stop.TheVariants as stop
use Rattle.sdt_outside.specs.Sinks.{Got, GotPart}
use Rattle.arm7_model.specs.declared.state.ArmState.{ArmState}
use Rattle.arm7_model.specs.declared.event.Event.{Event}
use Rattle.arm7_model.specs.declared.event.Event.TheVariants as event
use Rattle.arm7_model.specs.Registers.{register}
use Rattle.arm7_bus.specs.States.{State}
use Rattle.arm7_core.specs.Machines.{IsStep}
use Rattle.arm7_run.specs.Strings.{IsString, IsBroken}

-- what a step that goes on prints, by what it was and by the registers and the bus behind it
abbrev pub GoesOn : Event → ArmState → State → List ℕ → Type 0
GoesOn event.Ran core s piece = piece ≡ []
GoesOn (event.Took e) core s piece = piece ≡ []
GoesOn (event.Host n) core s piece =
    MatchBool (n == 0x00) (piece ≡ register core 0 % 256 ∷ [])
    (MatchBool (n == 0x02) (IsString s.contents (register core 0) piece)
    (MatchBool (n == 0x11) ⊥ (piece ≡ [])))
GoesOn (event.Unpredictable w) core s piece = ⊥
GoesOn (event.NoFrame a) core s piece = ⊥

-- n steps that go on lead from registers and a bus to others, and print a text
pub data Leads (core : ArmState) (s : State) : ℕ → List ℕ → ArmState → State → Type 0 where
  stays : Leads core s zero [] core s
  goes : {n : ℕ} {text : List ℕ} (piece : List ℕ) {core1 core2 : ArmState} {s1 s2 : State} (e : Event)
      → Leads core s n text core1 s1 → IsStep core1 s1 e core2 s2 → GoesOn e core2 s2 piece → Leads core s (suc n) (text ++ piece) core2 s2

-- how a run ends behind n steps that went on, where at most so many are made: with the number of steps that count
abbrev pub EndsWith : ℕ → ℕ → Stop → ArmState → State → ℕ → ArmState → State → Type 0
EndsWith most n stop.Budget core s made core' s' = (n ≡ most) × (made ≡ n) × (core' ≡ core) × (s' ≡ s)
EndsWith most n stop.Exit core s made core' s' = (n < most) × (made ≡ n + 1) × IsStep core s (event.Host 0x11) core' s'
EndsWith most n (stop.BadString a) core s made core' s' =
    (n < most) × (made ≡ n + 1) × IsStep core s (event.Host 0x02) core' s' × IsBroken s'.contents (register core' 0) a
EndsWith most n (stop.Unpredictable at w) core s made core' s' =
    (n < most) × (made ≡ n) × (at ≡ register core 15) × IsStep core s (event.Unpredictable w) core' s'
EndsWith most n (stop.NoFrame a) core s made core' s' = (n < most) × (made ≡ n) × IsStep core s (event.NoFrame a) core' s'
EndsWith most n stop.Sink core s made core' s' = ⊥

-- the run of at most so many steps: its stop, the steps that count, its text, and where it ends
pub record Runs (most : ℕ) (core : ArmState) (s : State) (why : Stop) (made : ℕ) (text : List ℕ) (core' : ArmState) (s' : State) : Type 0 where
  pub count : ℕ
  pub core1 : ArmState
  pub s1 : State
  pub leads : Leads core s count text core1 s1
  pub ends : EndsWith most count why core1 s1 made core' s'

abbrev pub is_sink : Stop → Bool
is_sink stop.Exit = false
is_sink stop.Budget = false
is_sink (stop.Unpredictable a w) = false
is_sink (stop.BadString a) = false
is_sink (stop.NoFrame a) = false
is_sink stop.Sink = true

-- a step printed, and the sink got a beginning of that alone; a fault was counted
pub record Chokes (core : ArmState) (s : State) (core' : ArmState) (s' : State) (before after : Option (List ℕ)) (rose : Type 0) : Type 0 where
  pub event : Event
  pub step : IsStep core s event core' s'
  pub piece : List ℕ
  pub goes_on : GoesOn event core' s' piece
  pub printed : piece ≢ []
  pub part : GotPart before after piece
  pub counted : rose

-- the last step of at most so many choked, and the others went on, with their text in the sink
pub record RunChokes (most : ℕ) (core : ArmState) (s : State) (made : ℕ) (core' : ArmState) (s' : State) (before after : Option (List ℕ)) (rose : Type 0) : Type 0 where
  pub count : ℕ
  pub few : count < most
  pub made_is : made ≡ count + 1
  pub text : List ℕ
  pub core1 : ArmState
  pub s1 : State
  pub leads : Leads core s count text core1 s1
  pub middle : Option (List ℕ)
  pub got : Got before middle text
  pub chokes : Chokes core1 s1 core' s' middle after rose

-- the run with its text appended to a sink; where the sink failed, it ends with the step whose text failed
abbrev pub RunsInto : ℕ → ArmState → State → Stop → ℕ → ArmState → State → Option (List ℕ) → Option (List ℕ) → Type 0 → Type 0
RunsInto most core s why made core' s' before after rose =
    MatchBool (is_sink why) (RunChokes most core s made core' s' before after rose)
    ((text : List ℕ) × Runs most core s why made text core' s' × Got before after text)
