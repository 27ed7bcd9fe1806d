use Rattle.aof_object.proofs.SpelledObject.{spelling_law}
use Rattle.aof_object.proofs.laws.spelling_law.Goals as goal

pub returns : goal.returns
returns c = spelling_law
