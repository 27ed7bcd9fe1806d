use Rattle.asm_model.proofs.FaultLemmas.{told_of_all}
use Rattle.asm_model.proofs.laws.told_of_all.Goals as goal

pub returns : goal.returns
returns c = told_of_all
