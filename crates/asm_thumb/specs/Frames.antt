-- Lines but for their expression, which stands behind the registers or alone. This project's.
use Rattle.std.specs.Prelude.{◌≡◌, ℕ, List, Result}
use Rattle.sdt_fault.specs.declared.kinds.LineKind.{LineKind}
use Rattle.sdt_word.specs.declared.codes.Condition.TheVariants as condition
use Rattle.asm_model.specs.declared.tokens.Token.{Token}
use Rattle.asm_model.specs.declared.exprs.Expr.{Expr}
use Rattle.asm_model.specs.declared.operands.LiteralAddress.TheVariants as literal
use Rattle.asm_model.specs.declared.operands.ThumbOperand.TheVariants as operand
use Rattle.asm_model.specs.declared.statements.PseudoLine.TheVariants as pseudo
use Rattle.asm_model.specs.declared.statements.What.{What}
use Rattle.asm_model.specs.declared.statements.What.TheVariants as what
use Rattle.asm_model.specs.declared.thumb_lines.ThumbLine.TheVariants as line
use Rattle.asm_model.specs.Grammar.{ParsesTokens}
use Rattle.asm_model.specs.Readings.{mapped, on_both}
use Rattle.asm_arm.specs.Addresses.{zero}
use Rattle.asm_thumb.specs.declared.frames.Frame.{Frame}
use Rattle.asm_thumb.specs.declared.frames.Frame.TheVariants as frame

-- a line with its expression
abbrev pub filled : Frame → Expr → What
filled (frame.Shift k rd rs) e = what.Thumb (line.ShiftImmediate k rd rs e)
filled (frame.Sum subtract rd rs) e = what.Thumb (line.AddSubtract subtract rd rs (operand.Number e))
filled (frame.Immediate o rd) e = what.Thumb (line.DataImmediate o rd e)
filled (frame.Literal rd) e = what.Thumb (line.LoadLiteral rd (literal.Offset e))
filled (frame.Label rd) e = what.Thumb (line.LoadLiteral rd (literal.Label e))
filled (frame.Transfer load byte rd rn) e = what.Thumb (line.TransferImmediate load byte rd rn e)
filled (frame.TransferHalf load rd rn) e = what.Thumb (line.TransferHalf load rd rn e)
filled (frame.TransferStack load rd) e = what.Thumb (line.TransferStack load rd e)
filled (frame.LoadAddress stack rd) e = what.Thumb (line.LoadAddress stack rd e)
filled (frame.AdjustStack subtract) e = what.Thumb (line.AdjustStack subtract e)
filled (frame.BranchConditional c) e = what.Thumb (line.BranchConditional c e)
filled frame.SoftwareInterrupt e = what.Thumb (line.SoftwareInterrupt e)
filled frame.Branch e = what.Thumb (line.Branch e)
filled frame.BranchLink e = what.Thumb (line.BranchLink e)
filled (frame.Constant rd) e = what.Pseudo (pseudo.LoadConstant condition.Al rd e)
filled (frame.Address rd) e = what.Pseudo (pseudo.Address condition.Al rd e)

-- a line, from what is read of its registers and the tokens of its expression
abbrev pub ReadsWith : List ℕ → Result Frame LineKind → List Token → Result What LineKind → Type 0
ReadsWith text f ts r = (v : Result Expr LineKind) × ParsesTokens text ts v × (r ≡ on_both filled f v)

-- a line whose number is 0 and isn't written
abbrev pub with_zero : Result Frame LineKind → Result What LineKind
with_zero f = mapped (λ x. filled x zero) f
