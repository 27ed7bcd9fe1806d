use Rattle.asm_model.proofs.ImmediateLemmas.{immediates_have_rotations}
use Rattle.asm_model.proofs.number_laws.immediates_have_rotations.Goals as goal

pub returns : goal.returns
returns c = immediates_have_rotations
