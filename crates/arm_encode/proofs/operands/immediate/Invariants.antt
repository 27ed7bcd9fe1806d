use Rattle.arm_encode.proofs.OperandLemmas.{NoneBelow}
use Rattle.arm_encode.proofs.operands.immediate.Given as goal

abbrev pub invariant-loop-r : goal.invariant-loop-r
invariant-loop-r l = NoneBelow l.v l.r
