use Rattle.arm7_model.proofs.StepLaws.{steps-run}
use Rattle.arm7_model.proofs.laws.steps_run.Goals as goal

pub returns : goal.returns
returns c = steps-run
