use Rattle.layout_laws.proofs.SettledLemmas.{no_other_names_are}
use Rattle.layout_laws.proofs.laws.no_other_names_are.Goals as goal

pub returns : goal.returns
returns c = no_other_names_are
