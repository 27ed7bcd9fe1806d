use Rattle.armsd_core.proofs.GoLemmas.{ends, ends_none, turns, turns_last}
use Rattle.armsd_core.proofs.stepping.go_on.Goals as goal

pub returns-in_default-2-clause-turns : goal.returns-in_default-2-clause-turns
returns-in_default-2-clause-turns g c =
    ends_none c.args.points.now c.args.watch c.step_for-one.result.reason c.step_for-one.result.steps c.args.m.now.state _ c.step_for-one.new.m.state _ _ _ _ c.in_default.is c.step_for-one.ensures.makes
