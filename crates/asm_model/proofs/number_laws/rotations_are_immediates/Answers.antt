use Rattle.asm_model.proofs.ImmediateLemmas.{rotations_are_immediates}
use Rattle.asm_model.proofs.number_laws.rotations_are_immediates.Goals as goal

pub returns : goal.returns
returns c = rotations_are_immediates
