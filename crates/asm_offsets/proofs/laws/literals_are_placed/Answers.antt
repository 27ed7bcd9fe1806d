use Rattle.asm_offsets.proofs.WordLemmas.{literals_are_placed}
use Rattle.asm_offsets.proofs.laws.literals_are_placed.Goals as goal

pub returns : goal.returns
returns c = literals_are_placed
