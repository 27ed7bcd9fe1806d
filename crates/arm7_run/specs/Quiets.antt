-- Steps behind which the host has nothing to do, up to one behind which it has. This project's.
use Rattle.std.specs.Prelude.{◌≡◌, ℕ, ◌≤◌, ◌<◌, Bool, true, false, List, Option, Some, None}
use Rattle.arm7_model.specs.declared.state.ArmState.{ArmState}
use Rattle.arm7_model.specs.declared.event.Event.{Event}
use Rattle.arm7_model.specs.declared.event.Event.TheVariants as event
use Rattle.arm7_model.specs.Registers.{register}
use Rattle.arm7_bus.specs.States.{State}
use Rattle.arm7_core.specs.Machines.{IsStep}
use Rattle.arm7_run.specs.declared.quiet.Asked.{Asked}
use Rattle.arm7_run.specs.Runs.{Leads}

-- the host has something to do behind such a step
abbrev pub asks : Event → Bool
asks event.Ran = false
asks (event.Took e) = false
asks (event.Host n) = true
asks (event.Unpredictable w) = true
asks (event.NoFrame a) = true

-- where `begun` steps lead to registers and a bus, `made` steps lead to others, with the same text
pub record Follows (begun : ℕ) (core : ArmState) (s : State) (made : ℕ) (core' : ArmState) (s' : State) : Type 0 where
  pub leads : (core0 : ArmState) (s0 : State) (text : List ℕ) → Leads core0 s0 begun text core s → Leads core0 s0 made text core' s'

-- behind `made` steps, fewer than `most`, one is made behind which the host has something to do
pub record ReachesAsked (begun most : ℕ) (core : ArmState) (s : State) (made : ℕ) (a : Asked) (core' : ArmState) (s' : State) : Type 0 where
  pub core1 : ArmState
  pub s1 : State
  pub least : begun ≤ made
  pub few : made < most
  pub follows : Follows begun core s made core1 s1
  pub at_is : a.at ≡ register core1 15
  pub step : IsStep core1 s1 a.event core' s'

abbrev pub Reaches : ℕ → ℕ → ArmState → State → ℕ → Option Asked → ArmState → State → Type 0
Reaches begun most core s made None core' s' = (made ≡ most) × Follows begun core s made core' s'
Reaches begun most core s made (Some a) core' s' = ReachesAsked begun most core s made a core' s'
