use Rattle.source_laws.proofs.ObjectLemmas.{one_object}
use Rattle.source_laws.proofs.laws.one_object.Goals as goal

pub returns : goal.returns
returns c = one_object
