use Rattle.big_faults.proofs.ShapeLemmas as lemmas
use Rattle.big_faults.proofs.big_has_object.Goals as goal

pub returns : goal.returns
returns c = lemmas.big_has_object
