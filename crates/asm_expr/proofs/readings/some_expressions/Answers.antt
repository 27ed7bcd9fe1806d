use Rattle.asm_model.specs.Operands.{operands_at}
use Rattle.asm_expr.proofs.ReadingLemmas.{expressions_end, expressions_step}
use Rattle.asm_expr.proofs.readings.some_expressions.Goals as goal

pub returns-in-None : goal.returns-in-None
returns-in-None c =
    expressions_end c.args.text.now (operands_at c.args.text.now 0 c.args.tokens.now) c.operands.left.now c.first_operand.result.0.now
    c.operands.so_far c.in_ok-so_far.so_far c.in_ok-reading.reading (rw c.in-None.is at c.first_operand.ensures) c.in_ok-reading.ensures c.in_ok-so_far.ensures
    c.operands.invariant

pub operands-preserved : goal.operands-preserved
operands-preserved c =
    expressions_step c.args.text.now (operands_at c.args.text.now 0 c.args.tokens.now) c.operands.left.now c.first_operand.result.0.now c.in-Some.tokens.now
    c.operands.so_far c.in_ok-so_far.so_far c.in_ok-reading.reading (rw c.in-Some.is at c.first_operand.ensures) c.in_ok-reading.ensures c.in_ok-so_far.ensures
    c.operands.invariant
