use Rattle.arm7_model.proofs.StepLaws.{runs-split}
use Rattle.arm7_model.proofs.laws.runs_split.Goals as goal

pub returns : goal.returns
returns c = runs-split
