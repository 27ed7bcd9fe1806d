use Rattle.arm7_model.proofs.StepLaws.{runs-show}
use Rattle.arm7_model.proofs.laws.runs_show.Goals as goal

pub returns : goal.returns
returns c = runs-show
