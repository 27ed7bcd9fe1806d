use Rattle.std.proofs.Common.{sym, arith}
use Rattle.asm_expr.proofs.OperandLemmas.{long_sign}
use Rattle.asm_expr.proofs.parts.is_sign.Goals as goal

pub returns-in-len2-up : goal.returns-in-len2-up
returns-in-len2-up c = sym (long_sign c.args.piece.now c.args.sign (omega arith))
