use Rattle.run_laws.proofs.MadeSteps.{steps-are-made}
use Rattle.run_laws.proofs.laws.steps_are_made.Goals as goal

pub returns : goal.returns
returns c = steps-are-made
