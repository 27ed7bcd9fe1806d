use Rattle.run_laws.proofs.OneRun.{made-steps-are-one}
use Rattle.run_laws.proofs.laws.made_steps_are_one.Goals as goal

pub returns : goal.returns
returns c = made-steps-are-one c.step_is_one.ensures c.step_is_valid.ensures
