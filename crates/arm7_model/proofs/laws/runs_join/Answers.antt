use Rattle.arm7_model.proofs.StepLaws.{runs-join}
use Rattle.arm7_model.proofs.laws.runs_join.Goals as goal

pub returns : goal.returns
returns c = runs-join
