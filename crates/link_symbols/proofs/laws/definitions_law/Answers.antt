use Rattle.link_symbols.proofs.LawLemmas.{definitions_law}
use Rattle.link_symbols.proofs.laws.definitions_law.Goals as goal

pub returns : goal.returns
returns c = definitions_law
