use Rattle.std.proofs.Common.{refl}
use Rattle.asm_expr.proofs.parser.Parser.put.Goals as goal

pub returns-then-not-is_operand : goal.returns-then-not-is_operand
returns-then-not-is_operand c = rw c.if-not-is_operand.ensures refl

pub returns : goal.returns
returns c = rw (c.if-not-is_operand.ensures, c.in_ok-push.ensures.items) refl
