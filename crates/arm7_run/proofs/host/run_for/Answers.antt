use Rattle.std.proofs.Common.{sym, ◌∙◌, arith}
use Rattle.arm7_run.proofs.QuietLemmas.{reached_asked, reached_end, spent, way_follows}
use Rattle.arm7_run.proofs.TurnLemmas.{begins, goes_on, stops, turned}
use Rattle.arm7_run.proofs.host.run_for.Goals as goal

pub turns-init : goal.turns-init
turns-init g c = record { way = begins c.args.m.now.state _ _; few = omega arith; faults = omega arith; valid = c.requires.valid; ready = c.requires.ready }

pub returns-in_default-clause-runs : goal.returns-in_default-clause-runs
returns-in_default-clause-runs g c =
    let end = reached_end _ _ _ _ _ _ _ _ c.run_quietly-quiet.ensures.reaches c.in_default.is in
    spent c.args.steps c.args.m.now.state _ _ c.run_quietly-quiet.result.made c.run_quietly-quiet.new.m.state _ _
    (way_follows _ _ _ _ _ _ _ _ _ _ c.turns.invariant.way end.1) end.0

pub returns-clause-runs : goal.returns-clause-runs
returns-clause-runs g c =
    let few = c.turns.invariant.few in
    let test = c.turns-test.false in
    spent c.args.steps c.args.m.now.state _ _ c.turns.made c.turns.m.state _ _ c.turns.invariant.way (omega (arith, few, test))

pub end_of-requires : goal.end_of-requires
end_of-requires g c =
    let a = reached_asked _ _ _ _ _ _ _ _ _ c.run_quietly-quiet.ensures.reaches c.in-Some.is in
    omega (arith, a.few, c.ranges.steps)

pub returns-in-Some-end_of-clause-runs : goal.returns-in-Some-end_of-clause-runs
returns-in-Some-end_of-clause-runs g c =
    let a = reached_asked _ _ _ _ _ _ _ _ _ c.run_quietly-quiet.ensures.reaches c.in-Some.is in
    stops c.args.steps c.args.m.now.state _ _ c.run_quietly-quiet.result.made a.core1 a.s1 _ _ _ _ _ _ c.answer-turned.result c.in-Some-end_of.end a.few
    (way_follows _ _ _ _ _ _ _ _ _ _ c.turns.invariant.way a.follows)
    (turned _ _ _ a.core1 a.s1 _ _ _ _ _ a.at_is a.step c.answer-turned.ensures.turns)
    (λ rose. omega (arith, c.turns.invariant.faults, rose)) (sym c.end_of.ensures.end ∙ c.in-Some-end_of.is)

pub turns-preserved : goal.turns-preserved
turns-preserved g c =
    let a = reached_asked _ _ _ _ _ _ _ _ _ c.run_quietly-quiet.ensures.reaches c.in-Some.is in
    record {
      way = goes_on c.args.m.now.state _ _ c.run_quietly-quiet.result.made a.core1 a.s1 _ _ _ _ _ c.answer-turned.result
          (way_follows _ _ _ _ _ _ _ _ _ _ c.turns.invariant.way a.follows)
          (turned _ _ _ a.core1 a.s1 _ _ _ _ _ a.at_is a.step c.answer-turned.ensures.turns) (sym c.end_of.ensures.end ∙ c.in_default-end_of.is);
      few = omega (arith, a.few);
      faults = omega (arith, c.turns.invariant.faults, c.answer-turned.ensures.faults);
      valid = c.run_quietly-quiet.ensures.valid;
      ready = c.run_quietly-quiet.ensures.ready;
    }

pub turns-smaller : goal.turns-smaller
turns-smaller g c =
    let a = reached_asked _ _ _ _ _ _ _ _ _ c.run_quietly-quiet.ensures.reaches c.in-Some.is in
    let least = a.least in
    omega (arith, a.few, least)
