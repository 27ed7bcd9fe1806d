use Rattle.arm7_model.proofs.ValidThumb.{run-valid}
use Rattle.arm7_model.proofs.laws.run_is_valid.Goals as goal

pub returns : goal.returns
returns c = run-valid
