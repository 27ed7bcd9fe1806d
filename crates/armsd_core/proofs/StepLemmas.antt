-- A Step is a run of the machine.
use Rattle.std.proofs.Common.{◌≡◌, ℕ, List, Option, refl, sym, subst}
use Rattle.sdt_fault.specs.declared.answer.Stop.{Stop}
use Rattle.sdt_fault.specs.declared.answer.Stop.TheVariants as stop
use Rattle.arm7_model.specs.declared.state.ArmState.{ArmState}
use Rattle.arm7_bus.specs.States.{State}
use Rattle.arm7_run.specs.Runs.{RunsInto}
use Rattle.armsd_core.specs.declared.reason.Reason.{Reason}
use Rattle.armsd_core.specs.declared.reason.Reason.TheVariants as reason
use Rattle.armsd_core.specs.Carried.{Makes}
use Rattle.armsd_core.specs.Goes.{Steps}
use Rattle.armsd_core.specs.Reasons.{reason_of}

pub step_makes : (n made : ℕ) (core : ArmState) (s : State) (why : Stop) (o : Option Reason) (core' : ArmState) (s' : State) (before after : Option (List ℕ)) (rose : Type 0)
    → o ≡ reason_of why → RunsInto n core s why made core' s' before after rose → Makes (Steps core s) n o made core' s' before after rose
step_makes n made core s why o core' s' before after rose e h =
    subst (λ (x : Option Reason). Makes (Steps core s) n x made core' s' before after rose) (sym e) (go why h)
  where
    go : (w : Stop) → RunsInto n core s w made core' s' before after rose → Makes (Steps core s) n (reason_of w) made core' s' before after rose
    go stop.Budget (text, runs, got) = (text, (stop.Budget, refl, runs), got)
    go stop.Exit (text, runs, got) = (text, (stop.Exit, refl, runs), got)
    go (stop.Unpredictable a w) (text, runs, got) = (text, (stop.Unpredictable a w, refl, runs), got)
    go (stop.BadString a) (text, runs, got) = (text, (stop.BadString a, refl, runs), got)
    go (stop.NoFrame a) (text, runs, got) = (text, (stop.NoFrame a, refl, runs), got)
    go stop.Sink c = record {
      count = c.count;
      few = c.few;
      made_is = c.made_is;
      text = c.text;
      core1 = c.core1;
      s1 = c.s1;
      leads = (stop.Budget, refl, record { count = c.count; core1 = c.core1; s1 = c.s1; leads = c.leads; ends = (refl, refl, refl, refl) });
      middle = c.middle;
      got = c.got;
      chokes = c.chokes;
    }
