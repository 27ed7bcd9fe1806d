use Rattle.link_select.proofs.LawLemmas.{duplicate_law}
use Rattle.link_select.proofs.laws.duplicate_law.Goals as goal

pub returns : goal.returns
returns c = duplicate_law
