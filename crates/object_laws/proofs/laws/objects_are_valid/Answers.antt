use Rattle.object_laws.proofs.ValidLemmas.{objects_are_valid}
use Rattle.object_laws.proofs.laws.objects_are_valid.Goals as goal

pub returns : goal.returns
returns c = objects_are_valid
