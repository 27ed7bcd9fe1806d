use Rattle.asm_instructions.proofs.ThumbFitLemmas.{thumb_instruction_fits}
use Rattle.asm_instructions.proofs.laws.thumb_instructions_fit.Goals as goal

pub returns : goal.returns
returns c = λ x l i said e. thumb_instruction_fits x l i said e
