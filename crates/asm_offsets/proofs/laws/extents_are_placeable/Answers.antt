use Rattle.asm_offsets.proofs.ExtentLemmas.{extents_are_placeable}
use Rattle.asm_offsets.proofs.laws.extents_are_placeable.Goals as goal

pub returns : goal.returns
returns c = extents_are_placeable
