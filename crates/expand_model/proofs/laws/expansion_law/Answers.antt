use Rattle.expand_model.proofs.RunLemmas.{one_outcome}
use Rattle.expand_model.proofs.laws.expansion_law.Goals as goal

pub returns : goal.returns
returns c = one_outcome c.one_scan.ensures c.one_parse.ensures
