use Rattle.asm_model.proofs.FaultLemmas.{told_of_directives}
use Rattle.asm_model.proofs.laws.told_of_directives.Goals as goal

pub returns : goal.returns
returns c = told_of_directives
