use Rattle.scatter_text.proofs.LawLemmas.{one_spelled}
use Rattle.scatter_text.proofs.laws.one_spelled.Goals as goal

pub returns : goal.returns
returns c = one_spelled
