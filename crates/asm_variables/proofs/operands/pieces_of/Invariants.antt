use Rattle.std.proofs.Common.{◌-◌, length}
use Rattle.asm_variables.proofs.operands.pieces_of.Given as goal
use Rattle.asm_variables.proofs.OperandLemmas.{IsCutting}

abbrev pub invariant-bytes : goal.invariant-bytes
invariant-bytes l = IsCutting l.text l.pieces.items l.piece.items l.standing l.left l.at

abbrev pub decreases-bytes : goal.decreases-bytes
decreases-bytes l = length l.text - l.at
