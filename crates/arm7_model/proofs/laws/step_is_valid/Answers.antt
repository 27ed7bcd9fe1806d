use Rattle.arm7_model.proofs.ValidThumb.{step-valid}
use Rattle.arm7_model.proofs.laws.step_is_valid.Goals as goal

pub returns : goal.returns
returns c = step-valid
