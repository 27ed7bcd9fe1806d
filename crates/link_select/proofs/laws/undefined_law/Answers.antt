use Rattle.link_select.proofs.LawLemmas.{undefined_law}
use Rattle.link_select.proofs.laws.undefined_law.Goals as goal

pub returns : goal.returns
returns c = undefined_law
