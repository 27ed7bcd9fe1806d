-- Steps behind which the host has nothing to do, and a run under way that makes them.
use Rattle.std.proofs.Common.{◌≡◌, ℕ, suc, ◌+◌, false, true≢false, List, [], Option, Some, None, refl, sym, subst}
use Rattle.std.proofs.lemmas.List.{append-nil}
use Rattle.sdt_fault.specs.declared.answer.Stop.TheVariants as stop
use Rattle.sdt_outside.specs.Sinks.{Got}
use Rattle.arm7_model.specs.declared.state.ArmState.{ArmState}
use Rattle.arm7_model.specs.declared.event.Event.{Event}
use Rattle.arm7_model.specs.declared.event.Event.TheVariants as event
use Rattle.arm7_bus.specs.States.{State}
use Rattle.arm7_core.specs.Machines.{IsStep}
use Rattle.arm7_run.specs.declared.quiet.Asked.{Asked}
use Rattle.arm7_run.specs.Quiets.{Follows, Reaches, ReachesAsked, asks}
use Rattle.arm7_run.specs.Runs.{GoesOn, Leads, Runs, goes}
use Rattle.arm7_run.proofs.TurnLemmas.{IsUnderWay, one-more}

pub follows_none : (begun : ℕ) (core : ArmState) (s : State) → Follows begun core s begun core s
follows_none begun core s = record { leads = λ core0 s0 text h. h }

prints-nothing : (e : Event) (core : ArmState) (s : State) → asks e ≡ false → GoesOn e core s []
prints-nothing event.Ran core s quiet = refl
prints-nothing (event.Took x) core s quiet = refl
prints-nothing (event.Host n) core s quiet = absurd (true≢false quiet)
prints-nothing (event.Unpredictable w) core s quiet = absurd (true≢false quiet)
prints-nothing (event.NoFrame a) core s quiet = absurd (true≢false quiet)

-- one more step
pub follows_more : (begun : ℕ) (core : ArmState) (s : State) (made : ℕ) (core1 : ArmState) (s1 : State) (core2 : ArmState) (s2 : State) (e : Event)
    → Follows begun core s made core1 s1 → IsStep core1 s1 e core2 s2 → asks e ≡ false → Follows begun core s (made + 1) core2 s2
follows_more begun core s made core1 s1 core2 s2 e f step quiet =
    record {
      leads = λ core0 s0 text h.
          subst (λ (m : ℕ). Leads core0 s0 m text core2 s2) (one-more made)
          (subst (λ (t : List ℕ). Leads core0 s0 (suc made) t core2 s2) (append-nil text) (goes [] e (f.leads core0 s0 text h) step (prints-nothing e core2 s2 quiet)));
    }

-- all steps were made, and the host wasn't asked
pub all_made : (begun most : ℕ) (core : ArmState) (s : State) (made : ℕ) (core' : ArmState) (s' : State)
    → Follows begun core s made core' s' → made ≡ most → Reaches begun most core s most None core' s'
all_made begun most core s made core' s' f all = (refl, subst (λ (n : ℕ). Follows begun core s n core' s') all f)

-- what the steps reached, by whether the host was asked
pub reached_end : (begun most : ℕ) (core : ArmState) (s : State) (made : ℕ) (asked : Option Asked) (core' : ArmState) (s' : State)
    → Reaches begun most core s made asked core' s' → asked ≡ None → (made ≡ most) × Follows begun core s made core' s'
reached_end begun most core s made asked core' s' h is = subst (λ (x : Option Asked). Reaches begun most core s made x core' s') is h

pub reached_asked : (begun most : ℕ) (core : ArmState) (s : State) (made : ℕ) (asked : Option Asked) (a : Asked) (core' : ArmState) (s' : State)
    → Reaches begun most core s made asked core' s' → asked ≡ Some a → ReachesAsked begun most core s made a core' s'
reached_asked begun most core s made asked a core' s' h is = subst (λ (x : Option Asked). Reaches begun most core s made x core' s') is h

-- a run under way makes such steps
pub way_follows : (core : ArmState) (s : State) (before : Option (List ℕ)) (n : ℕ) (core1 : ArmState) (s1 : State) (after1 : Option (List ℕ)) (m : ℕ) (core2 : ArmState) (s2 : State)
    → IsUnderWay core s before n core1 s1 after1 → Follows n core1 s1 m core2 s2 → IsUnderWay core s before m core2 s2 after1
way_follows core s before n core1 s1 after1 m core2 s2 w f = record { text = w.text; leads = f.leads core s w.text w.leads; got = w.got }

-- a run under way that made all its steps
pub spent : (most : ℕ) (core : ArmState) (s : State) (before : Option (List ℕ)) (n : ℕ) (core1 : ArmState) (s1 : State) (after1 : Option (List ℕ))
    → IsUnderWay core s before n core1 s1 after1 → n ≡ most → (text : List ℕ) × Runs most core s stop.Budget most text core1 s1 × Got before after1 text
spent most core s before n core1 s1 after1 w all =
    (w.text, record { count = n; core1 = core1; s1 = s1; leads = w.leads; ends = (all, sym all, refl, refl) }, w.got)
