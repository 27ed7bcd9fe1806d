use Rattle.std.proofs.Common.{◌-◌, length}
use Rattle.asm_variables.proofs.operands.width_before_comment.Given as goal
use Rattle.asm_variables.proofs.OperandLemmas.{IsPassing}

abbrev pub invariant-bytes : goal.invariant-bytes
invariant-bytes l = IsPassing l.text l.standing l.left l.at

abbrev pub decreases-bytes : goal.decreases-bytes
decreases-bytes l = length l.text - l.at
