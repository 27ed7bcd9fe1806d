use Rattle.scatter_text.proofs.LawLemmas.{reading_law}
use Rattle.scatter_text.proofs.laws.reading_law.Goals as goal

pub returns : goal.returns
returns c = reading_law
