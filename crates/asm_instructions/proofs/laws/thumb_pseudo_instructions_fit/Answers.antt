use Rattle.asm_instructions.proofs.ThumbFitLemmas.{thumb_pseudo_fits}
use Rattle.asm_instructions.proofs.laws.thumb_pseudo_instructions_fit.Goals as goal

pub returns : goal.returns
returns c = λ x word l i e. thumb_pseudo_fits x word l i e
