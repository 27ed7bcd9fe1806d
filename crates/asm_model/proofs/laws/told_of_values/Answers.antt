use Rattle.asm_model.proofs.FaultLemmas.{told_of_values}
use Rattle.asm_model.proofs.laws.told_of_values.Goals as goal

pub returns : goal.returns
returns c = told_of_values
