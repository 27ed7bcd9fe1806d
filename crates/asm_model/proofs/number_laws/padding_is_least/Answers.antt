use Rattle.asm_model.proofs.OffsetLemmas.{padding_is_least}
use Rattle.asm_model.proofs.number_laws.padding_is_least.Goals as goal

pub returns : goal.returns
returns c = padding_is_least
