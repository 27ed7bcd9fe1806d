use Rattle.asm_expr.proofs.StackLemmas.{operand_read, no_operand_read}
use Rattle.asm_expr.proofs.read.operand_alone.Goals as goal

pub returns-then-not-is_operand : goal.returns-then-not-is_operand
returns-then-not-is_operand c = no_operand_read c.args.item c.is_operand.result c.is_operand.ensures c.if-not-is_operand.true

pub returns : goal.returns
returns c =
    operand_read c.args.item c.is_operand.result c.in_ok-items.items c.is_operand.ensures c.if-not-is_operand.false c.in_ok-items.ensures
