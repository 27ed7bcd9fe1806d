use Rattle.link_symbols.proofs.TableLemmas.{locals_law}
use Rattle.link_symbols.proofs.laws.locals_law.Goals as goal

pub returns : goal.returns
returns c = locals_law
