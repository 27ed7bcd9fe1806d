use Rattle.std.proofs.Common.{arith}
use Rattle.armsd_core.proofs.GoLemmas.{starts, passes_on, passes_all, passes_last_of}
use Rattle.armsd_core.proofs.stepping.go_for.Goals as goal

pub steps-init : goal.steps-init
steps-init g c = record { way = starts c.args.points.now c.args.watch c.args.m.now.state _ _; faults = omega arith; valid = c.requires.valid; ready = c.requires.ready }

pub returns-in-Some-clause-makes : goal.returns-in-Some-clause-makes
returns-in-Some-clause-makes g c =
    passes_last_of c.args.points.now c.args.watch c.args.m.now.state _ _ c.args.steps c.steps.made c.steps.m.state _ _ c.go_on.result c.in-Some.end _ _ _ _ _
    c.steps-test.true (λ rose. omega (arith, c.steps.invariant.faults, rose)) c.steps.invariant.way c.go_on.ensures.turns c.in-Some.is

pub steps-preserved : goal.steps-preserved
steps-preserved g c = record {
  way = passes_on c.args.points.now c.args.watch c.args.m.now.state _ _ c.steps.made c.steps.m.state _ _ c.go_on.result _ _ _ _ c.steps.invariant.way c.go_on.ensures.turns c.in_default.is;
  faults = omega (arith, c.steps.invariant.faults, c.go_on.ensures.faults);
  valid = c.go_on.ensures.valid;
  ready = c.go_on.ensures.ready;
}

pub returns-clause-makes : goal.returns-clause-makes
returns-clause-makes g c =
    passes_all c.args.points.now c.args.watch c.args.m.now.state _ _ c.args.steps c.steps.made _ _ _ (omega arith) c.steps.invariant.way
