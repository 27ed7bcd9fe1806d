use Rattle.std.proofs.Common.{sym, ◌∙◌, arith}
use Rattle.arm7_run.proofs.IdleLemmas.{known_asked, known_more}
use Rattle.arm7_run.proofs.QuietLemmas.{all_made, follows_more, follows_none}
use Rattle.arm7_run.proofs.quiet.run_quietly.Goals as goal
use Rattle.arm7_run.proofs.quiet.run_quietly.Goals.{then-not-kept_to_banks, else-not-kept_to_banks}

pub steps-init : goal.steps-init
steps-init g c = record { follows = follows_none _ _ _; least = omega arith; few = c.requires.few; valid = c.requires.valid; ready = c.requires.ready; idle = known_asked _ _ c.is_idle-idle.ensures }

pub steps-preserved : goal.steps-preserved
steps-preserved g c = record {
  follows = follows_more c.args.begun c.args.m.now.state _ c.steps.made c.steps.m.state _ c.step_knowing-event.new.self.state _ c.step_knowing-event.result c.steps.invariant.follows c.step_knowing-event.ensures.step (sym c.asks.ensures ∙ c.if-asks.false);
  least = omega (arith, c.steps.invariant.least);
  few = omega (arith, c.steps-test.true);
  valid = c.step_knowing-event.ensures.valid;
  ready = c.step_knowing-event.ensures.ready;
  idle = elim c.if-not-kept_to_banks.branch [
    | then-not-kept_to_banks w ↦ rw w.idle-is (known_asked _ _ w.is_idle-idle-then-not-kept_to_banks.ensures)
    | else-not-kept_to_banks w ↦
        rw w.idle-is (known_more c.steps.m.state _ c.step_knowing-event.result c.step_knowing-event.new.self.state _ c.steps.idle
        c.steps.invariant.idle c.step_knowing-event.ensures.step (c.kept_to_banks.ensures w.if-not-kept_to_banks.false))
  ];
}

pub returns-then-asks-clause-reaches : goal.returns-then-asks-clause-reaches
returns-then-asks-clause-reaches g c = record {
  core1 = c.steps.m.state;
  s1 = _;
  least = c.steps.invariant.least;
  few = c.steps-test.true;
  follows = c.steps.invariant.follows;
  at_is = c.register-at.ensures;
  step = c.step_knowing-event.ensures.step;
}

pub returns-clause-reaches : goal.returns-clause-reaches
returns-clause-reaches g c =
    let few = c.steps.invariant.few in
    let test = c.steps-test.false in
    all_made _ _ _ _ _ _ _ c.steps.invariant.follows (omega (arith, few, test))
