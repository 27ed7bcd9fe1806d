-- The expressions that a statement says, in the order in which they stand. SDT 2.50 Reference Guide, chapter on the
-- assembler.
use Rattle.std.specs.Prelude.{List, [], ◌∷◌, Bool, true, false}
use Rattle.std.specs.List.{list_any}
use Rattle.asm_model.specs.declared.exprs.Expr.{Expr}
use Rattle.asm_model.specs.declared.exprs.ExprItem.{ExprItem}
use Rattle.asm_model.specs.declared.exprs.ExprItem.TheVariants as item
use Rattle.asm_model.specs.declared.operands.Shift.{Shift}
use Rattle.asm_model.specs.declared.operands.Shift.TheVariants as shift
use Rattle.asm_model.specs.declared.operands.Address.{Address}
use Rattle.asm_model.specs.declared.operands.Address.TheVariants as address
use Rattle.asm_model.specs.declared.operands.HalfOffset.{HalfOffset}
use Rattle.asm_model.specs.declared.operands.HalfOffset.TheVariants as half
use Rattle.asm_model.specs.declared.operands.LiteralAddress.{LiteralAddress}
use Rattle.asm_model.specs.declared.operands.LiteralAddress.TheVariants as literal
use Rattle.asm_model.specs.declared.operands.ThumbOperand.{ThumbOperand}
use Rattle.asm_model.specs.declared.operands.ThumbOperand.TheVariants as operand
use Rattle.asm_model.specs.declared.arm_lines.ArmLine.{ArmLine}
use Rattle.asm_model.specs.declared.arm_lines.ArmLine.TheVariants as arm
use Rattle.asm_model.specs.declared.thumb_lines.ThumbLine.{ThumbLine}
use Rattle.asm_model.specs.declared.thumb_lines.ThumbLine.TheVariants as thumb
use Rattle.asm_model.specs.declared.directives.Boundary.{Boundary}
use Rattle.asm_model.specs.declared.directives.Boundary.TheVariants as limit
use Rattle.asm_model.specs.declared.directives.RnOperand.{RnOperand}
use Rattle.asm_model.specs.declared.directives.RnOperand.TheVariants as rn
use Rattle.asm_model.specs.declared.directives.DirectiveLine.{DirectiveLine}
use Rattle.asm_model.specs.declared.directives.DirectiveLine.TheVariants as line
use Rattle.asm_model.specs.declared.statements.PseudoLine.{PseudoLine}
use Rattle.asm_model.specs.declared.statements.PseudoLine.TheVariants as pseudo
use Rattle.asm_model.specs.declared.statements.What.{What}
use Rattle.asm_model.specs.declared.statements.What.TheVariants as what

-- ---- instructions

abbrev pub shift_exprs : Shift → List Expr
shift_exprs (shift.By kind e) = e ∷ []
shift_exprs _ = []

abbrev pub address_exprs : Address → List Expr
address_exprs (address.Based rn ix e) = e ∷ []
address_exprs (address.Label e) = e ∷ []

abbrev pub half_exprs : HalfOffset → List Expr
half_exprs (half.Number e) = e ∷ []
half_exprs (half.Register subtract rm) = []

abbrev pub arm_exprs : ArmLine → List Expr
arm_exprs (arm.DataImmediate condition operation set_flags rd rn e) = e ∷ []
arm_exprs (arm.DataShifted condition operation set_flags rd rn rm by) = shift_exprs by
arm_exprs (arm.DataRegisterShifted condition operation set_flags rd rn rm kind rs) = []
arm_exprs (arm.Multiply condition accumulate set_flags rd rm rs rn) = []
arm_exprs (arm.MultiplyLong condition signed accumulate set_flags low high rm rs) = []
arm_exprs (arm.Swap condition byte rd rm rn) = []
arm_exprs (arm.BranchExchange condition rm) = []
arm_exprs (arm.ReadStatus condition status rd) = []
arm_exprs (arm.WriteStatus condition fields rm) = []
arm_exprs (arm.WriteStatusImmediate condition fields e) = e ∷ []
arm_exprs (arm.TransferImmediate condition load byte rd a) = address_exprs a
arm_exprs (arm.TransferShifted condition load byte rd rn ix subtract rm by) = shift_exprs by
arm_exprs (arm.TransferHalf condition load kind rd rn ix o) = half_exprs o
arm_exprs (arm.TransferBlock condition load mode rn write_back list user) = []
arm_exprs (arm.Branch condition link e) = e ∷ []
arm_exprs (arm.SoftwareInterrupt condition e) = e ∷ []

abbrev pub operand_exprs : ThumbOperand → List Expr
operand_exprs (operand.Register rn) = []
operand_exprs (operand.Number e) = e ∷ []

abbrev pub literal_exprs : LiteralAddress → List Expr
literal_exprs (literal.Offset e) = e ∷ []
literal_exprs (literal.Label e) = e ∷ []

abbrev pub thumb_exprs : ThumbLine → List Expr
thumb_exprs (thumb.ShiftImmediate by rd rs e) = e ∷ []
thumb_exprs (thumb.AddSubtract subtract rd rs o) = operand_exprs o
thumb_exprs (thumb.DataImmediate operation rd e) = e ∷ []
thumb_exprs (thumb.DataRegister operation rd rs) = []
thumb_exprs (thumb.HighRegister operation rd rs) = []
thumb_exprs (thumb.LoadLiteral rd a) = literal_exprs a
thumb_exprs (thumb.TransferRegister load byte rd rn ro) = []
thumb_exprs (thumb.TransferSigned kind rd rn ro) = []
thumb_exprs (thumb.TransferImmediate load byte rd rn e) = e ∷ []
thumb_exprs (thumb.TransferHalf load rd rn e) = e ∷ []
thumb_exprs (thumb.TransferStack load rd e) = e ∷ []
thumb_exprs (thumb.LoadAddress stack rd e) = e ∷ []
thumb_exprs (thumb.AdjustStack subtract e) = e ∷ []
thumb_exprs (thumb.PushPop load list) = []
thumb_exprs (thumb.TransferMultiple load rn list) = []
thumb_exprs (thumb.BranchConditional c e) = e ∷ []
thumb_exprs (thumb.SoftwareInterrupt e) = e ∷ []
thumb_exprs (thumb.Branch e) = e ∷ []
thumb_exprs (thumb.BranchLink e) = e ∷ []

abbrev pub pseudo_exprs : PseudoLine → List Expr
pseudo_exprs (pseudo.LoadConstant condition rd e) = e ∷ []
pseudo_exprs (pseudo.Address condition rd e) = e ∷ []
pseudo_exprs (pseudo.LongAddress condition rd e) = e ∷ []
pseudo_exprs pseudo.NoOperation = []

-- ---- directives

abbrev pub boundary_exprs : Boundary → List Expr
boundary_exprs limit.Word = []
boundary_exprs (limit.Multiple e) = e ∷ []
boundary_exprs (limit.Behind e f) = e ∷ f ∷ []

abbrev pub given_exprs : RnOperand → List Expr
given_exprs (rn.Register n) = []
given_exprs (rn.Number e) = e ∷ []

abbrev pub directive_exprs : DirectiveLine → List Expr
directive_exprs (line.Area name a) = a.alignments
directive_exprs line.Entry = []
directive_exprs line.End = []
directive_exprs (line.Export name) = []
directive_exprs (line.Import name mark) = []
directive_exprs (line.Extern name mark) = []
directive_exprs (line.Keep name) = []
directive_exprs (line.Equ e) = e ∷ []
directive_exprs (line.Rn r) = given_exprs r
directive_exprs line.Rout = []
directive_exprs (line.Assert e) = e ∷ []
directive_exprs line.Nofp = []
directive_exprs (line.Opt e) = e ∷ []
directive_exprs line.Ttl = []
directive_exprs line.Subt = []
directive_exprs (line.Constants item es) = es
directive_exprs (line.Space e) = e ∷ []
directive_exprs (line.Align b) = boundary_exprs b
directive_exprs line.Ltorg = []
directive_exprs line.Data = []
directive_exprs (line.Map e) = e ∷ []
directive_exprs (line.Field e) = e ∷ []
directive_exprs line.Code16 = []
directive_exprs line.Code32 = []

-- ---- statements

abbrev pub exprs_of : What → List Expr
exprs_of what.Nothing = []
exprs_of (what.Arm l) = arm_exprs l
exprs_of (what.Thumb l) = thumb_exprs l
exprs_of (what.Pseudo l) = pseudo_exprs l
exprs_of (what.Directive l) = directive_exprs l

-- ---- numbers that are too large

abbrev pub is_large : ExprItem → Bool
is_large item.TooLarge = true
is_large _ = false

-- whether a statement has a number that is too large
abbrev pub has_large : What → Bool
has_large w = list_any (λ e. list_any is_large e.items) (exprs_of w)
