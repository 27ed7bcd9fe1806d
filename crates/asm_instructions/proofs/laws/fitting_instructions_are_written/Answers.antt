use Rattle.asm_instructions.proofs.WordLemmas.{fitting_are_written}
use Rattle.asm_instructions.proofs.laws.fitting_instructions_are_written.Goals as goal

pub returns : goal.returns
returns c = fitting_are_written
