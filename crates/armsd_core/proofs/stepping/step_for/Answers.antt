use Rattle.armsd_core.proofs.StepLemmas.{step_makes}
use Rattle.armsd_core.proofs.stepping.step_for.Goals as goal

pub returns-clause-makes : goal.returns-clause-makes
returns-clause-makes g c =
    step_makes c.args.steps c.run_for-end.result.steps c.args.m.now.state _ c.run_for-end.result.stop c.reason_of.result _ _ _ _ _ c.reason_of.ensures c.run_for-end.ensures.runs
