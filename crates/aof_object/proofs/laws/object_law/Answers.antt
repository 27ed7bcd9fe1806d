use Rattle.aof_object.proofs.ObjectLaw.{object_law}
use Rattle.aof_object.proofs.laws.object_law.Goals as goal

pub returns : goal.returns
returns c = object_law
