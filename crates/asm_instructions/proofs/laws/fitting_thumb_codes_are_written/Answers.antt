use Rattle.asm_instructions.proofs.ThumbFitLemmas.{codes_are_written}
use Rattle.asm_instructions.proofs.laws.fitting_thumb_codes_are_written.Goals as goal

pub returns : goal.returns
returns c = codes_are_written
