use Rattle.layout_laws.proofs.FinalLemmas.{known_names_are_final}
use Rattle.layout_laws.proofs.laws.known_names_are_final.Goals as goal

pub returns : goal.returns
returns c = known_names_are_final
