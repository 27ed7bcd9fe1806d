-- Local labels as labels of their own: a statement with a local label gets a name that no line can spell, a line feed and
-- its number among the statements, and a reference becomes the name of the statement that it names. A reference that names
-- none is left. This project's.
use Rattle.std.specs.Prelude.{ℕ, List, [], ◌∷◌, length, map, Option, Some, None}
use Rattle.sdt_fault.specs.Digits.{hexadecimal_places}
use Rattle.asm_model.specs.declared.exprs.Expr.{Expr}
use Rattle.asm_model.specs.declared.exprs.ExprItem.{ExprItem}
use Rattle.asm_model.specs.declared.exprs.ExprItem.TheVariants as item
use Rattle.asm_model.specs.declared.operands.Shift.{Shift}
use Rattle.asm_model.specs.declared.operands.Shift.TheVariants as shift
use Rattle.asm_model.specs.declared.operands.Address.{Address}
use Rattle.asm_model.specs.declared.operands.Address.TheVariants as address
use Rattle.asm_model.specs.declared.operands.HalfOffset.{HalfOffset}
use Rattle.asm_model.specs.declared.operands.HalfOffset.TheVariants as half
use Rattle.asm_model.specs.declared.operands.LiteralAddress.{LiteralAddress}
use Rattle.asm_model.specs.declared.operands.LiteralAddress.TheVariants as literal
use Rattle.asm_model.specs.declared.operands.ThumbOperand.{ThumbOperand}
use Rattle.asm_model.specs.declared.operands.ThumbOperand.TheVariants as operand
use Rattle.asm_model.specs.declared.arm_lines.ArmLine.{ArmLine}
use Rattle.asm_model.specs.declared.arm_lines.ArmLine.TheVariants as arm
use Rattle.asm_model.specs.declared.thumb_lines.ThumbLine.{ThumbLine}
use Rattle.asm_model.specs.declared.thumb_lines.ThumbLine.TheVariants as thumb
use Rattle.asm_model.specs.declared.directives.AreaAttributes.{AreaAttributes}
use Rattle.asm_model.specs.declared.directives.Boundary.{Boundary}
use Rattle.asm_model.specs.declared.directives.Boundary.TheVariants as limit
use Rattle.asm_model.specs.declared.directives.RnOperand.{RnOperand}
use Rattle.asm_model.specs.declared.directives.RnOperand.TheVariants as rn
use Rattle.asm_model.specs.declared.directives.DirectiveLine.{DirectiveLine}
use Rattle.asm_model.specs.declared.directives.DirectiveLine.TheVariants as line
use Rattle.asm_model.specs.declared.statements.PseudoLine.{PseudoLine}
use Rattle.asm_model.specs.declared.statements.PseudoLine.TheVariants as pseudo
use Rattle.asm_model.specs.declared.statements.Statement.{Statement}
use Rattle.asm_model.specs.declared.statements.What.{What}
use Rattle.asm_model.specs.declared.statements.What.TheVariants as what
use Rattle.asm_locals.specs.Labels.{local_number, target}

-- the name of the local label of a statement
abbrev pub hidden_name : ℕ → List ℕ
hidden_name k = 10 ∷ hexadecimal_places 8 k

-- ---- expressions, where references name these statements

abbrev pub Targets : Type 0
Targets = List ℕ → Option ℕ

abbrev pub reference : List ℕ → Option ℕ → ExprItem
reference text None = item.Local text
reference text (Some k) = item.Name (hidden_name k)

abbrev pub named_item : Targets → ExprItem → ExprItem
named_item t (item.Local text) = reference text (t text)
named_item t i = i

abbrev pub named : Targets → Expr → Expr
named t e = record { items = map (named_item t) e.items }

abbrev pub all_named : Targets → List Expr → List Expr
all_named t es = map (named t) es

-- ---- what lines say

abbrev pub named_shift : Targets → Shift → Shift
named_shift t (shift.By kind e) = shift.By kind (named t e)
named_shift t s = s

abbrev pub named_address : Targets → Address → Address
named_address t (address.Based r ix e) = address.Based r ix (named t e)
named_address t (address.Label e) = address.Label (named t e)

abbrev pub named_half : Targets → HalfOffset → HalfOffset
named_half t (half.Number e) = half.Number (named t e)
named_half t o = o

abbrev pub named_arm : Targets → ArmLine → ArmLine
named_arm t (arm.DataImmediate condition operation set_flags rd rn e) =
    arm.DataImmediate condition operation set_flags rd rn (named t e)
named_arm t (arm.DataShifted condition operation set_flags rd rn rm by) =
    arm.DataShifted condition operation set_flags rd rn rm (named_shift t by)
named_arm t (arm.WriteStatusImmediate condition fields e) = arm.WriteStatusImmediate condition fields (named t e)
named_arm t (arm.TransferImmediate condition load byte rd a) = arm.TransferImmediate condition load byte rd (named_address t a)
named_arm t (arm.TransferShifted condition load byte rd rn ix subtract rm by) =
    arm.TransferShifted condition load byte rd rn ix subtract rm (named_shift t by)
named_arm t (arm.TransferHalf condition load kind rd rn ix o) =
    arm.TransferHalf condition load kind rd rn ix (named_half t o)
named_arm t (arm.Branch condition link e) = arm.Branch condition link (named t e)
named_arm t (arm.SoftwareInterrupt condition e) = arm.SoftwareInterrupt condition (named t e)
named_arm t (arm.DataRegisterShifted condition operation set_flags rd rn rm kind rs) =
    arm.DataRegisterShifted condition operation set_flags rd rn rm kind rs
named_arm t (arm.Multiply condition accumulate set_flags rd rm rs rn) = arm.Multiply condition accumulate set_flags rd rm rs rn
named_arm t (arm.MultiplyLong condition signed accumulate set_flags low high rm rs) =
    arm.MultiplyLong condition signed accumulate set_flags low high rm rs
named_arm t (arm.Swap condition byte rd rm rn) = arm.Swap condition byte rd rm rn
named_arm t (arm.BranchExchange condition rm) = arm.BranchExchange condition rm
named_arm t (arm.ReadStatus condition status rd) = arm.ReadStatus condition status rd
named_arm t (arm.WriteStatus condition fields rm) = arm.WriteStatus condition fields rm
named_arm t (arm.TransferBlock condition load mode rn write_back list user) = arm.TransferBlock condition load mode rn write_back list user

abbrev pub named_operand : Targets → ThumbOperand → ThumbOperand
named_operand t (operand.Number e) = operand.Number (named t e)
named_operand t o = o

abbrev pub named_literal : Targets → LiteralAddress → LiteralAddress
named_literal t (literal.Offset e) = literal.Offset (named t e)
named_literal t (literal.Label e) = literal.Label (named t e)

abbrev pub named_thumb : Targets → ThumbLine → ThumbLine
named_thumb t (thumb.ShiftImmediate by rd rs e) = thumb.ShiftImmediate by rd rs (named t e)
named_thumb t (thumb.AddSubtract subtract rd rs o) = thumb.AddSubtract subtract rd rs (named_operand t o)
named_thumb t (thumb.DataImmediate operation rd e) = thumb.DataImmediate operation rd (named t e)
named_thumb t (thumb.LoadLiteral rd a) = thumb.LoadLiteral rd (named_literal t a)
named_thumb t (thumb.TransferImmediate load byte rd rn e) = thumb.TransferImmediate load byte rd rn (named t e)
named_thumb t (thumb.TransferHalf load rd rn e) = thumb.TransferHalf load rd rn (named t e)
named_thumb t (thumb.TransferStack load rd e) = thumb.TransferStack load rd (named t e)
named_thumb t (thumb.LoadAddress stack rd e) = thumb.LoadAddress stack rd (named t e)
named_thumb t (thumb.AdjustStack subtract e) = thumb.AdjustStack subtract (named t e)
named_thumb t (thumb.BranchConditional condition e) = thumb.BranchConditional condition (named t e)
named_thumb t (thumb.SoftwareInterrupt e) = thumb.SoftwareInterrupt (named t e)
named_thumb t (thumb.Branch e) = thumb.Branch (named t e)
named_thumb t (thumb.BranchLink e) = thumb.BranchLink (named t e)
named_thumb t (thumb.DataRegister operation rd rs) = thumb.DataRegister operation rd rs
named_thumb t (thumb.HighRegister operation rd rs) = thumb.HighRegister operation rd rs
named_thumb t (thumb.TransferRegister load byte rd rn ro) = thumb.TransferRegister load byte rd rn ro
named_thumb t (thumb.TransferSigned kind rd rn ro) = thumb.TransferSigned kind rd rn ro
named_thumb t (thumb.PushPop load list) = thumb.PushPop load list
named_thumb t (thumb.TransferMultiple load rn list) = thumb.TransferMultiple load rn list

abbrev pub named_pseudo : Targets → PseudoLine → PseudoLine
named_pseudo t (pseudo.LoadConstant condition rd e) = pseudo.LoadConstant condition rd (named t e)
named_pseudo t (pseudo.Address condition rd e) = pseudo.Address condition rd (named t e)
named_pseudo t (pseudo.LongAddress condition rd e) = pseudo.LongAddress condition rd (named t e)
named_pseudo t pseudo.NoOperation = pseudo.NoOperation

abbrev pub named_attributes : Targets → AreaAttributes → AreaAttributes
named_attributes t a = record a { alignments = all_named t a.alignments }

abbrev pub named_boundary : Targets → Boundary → Boundary
named_boundary t limit.Word = limit.Word
named_boundary t (limit.Multiple e) = limit.Multiple (named t e)
named_boundary t (limit.Behind e f) = limit.Behind (named t e) (named t f)

abbrev pub named_register : Targets → RnOperand → RnOperand
named_register t (rn.Register n) = rn.Register n
named_register t (rn.Number e) = rn.Number (named t e)

abbrev pub named_directive : Targets → DirectiveLine → DirectiveLine
named_directive t (line.Area name a) = line.Area name (named_attributes t a)
named_directive t (line.Equ e) = line.Equ (named t e)
named_directive t (line.Rn r) = line.Rn (named_register t r)
named_directive t (line.Assert e) = line.Assert (named t e)
named_directive t (line.Opt e) = line.Opt (named t e)
named_directive t (line.Constants item es) = line.Constants item (all_named t es)
named_directive t (line.Space e) = line.Space (named t e)
named_directive t (line.Align b) = line.Align (named_boundary t b)
named_directive t (line.Map e) = line.Map (named t e)
named_directive t (line.Field e) = line.Field (named t e)
named_directive t line.Entry = line.Entry
named_directive t line.End = line.End
named_directive t (line.Export name) = line.Export name
named_directive t (line.Import name mark) = line.Import name mark
named_directive t (line.Extern name mark) = line.Extern name mark
named_directive t (line.Keep name) = line.Keep name
named_directive t line.Rout = line.Rout
named_directive t line.Nofp = line.Nofp
named_directive t line.Ttl = line.Ttl
named_directive t line.Subt = line.Subt
named_directive t line.Ltorg = line.Ltorg
named_directive t line.Data = line.Data
named_directive t line.Code16 = line.Code16
named_directive t line.Code32 = line.Code32

abbrev pub named_what : Targets → What → What
named_what t what.Nothing = what.Nothing
named_what t (what.Arm l) = what.Arm (named_arm t l)
named_what t (what.Thumb l) = what.Thumb (named_thumb t l)
named_what t (what.Pseudo l) = what.Pseudo (named_pseudo t l)
named_what t (what.Directive l) = what.Directive (named_directive t l)

-- ---- statements

abbrev pub named_label : ℕ → Option ℕ → Option (List ℕ) → Option (List ℕ)
named_label k None label = label
named_label k (Some n) label = Some (hidden_name k)

-- these statements, where those stand before them, the nearest first
abbrev pub named_behind : List Statement → List Statement → List Statement
named_behind before [] = []
named_behind before (s ∷ rest) =
    record s { label = named_label (length before) (local_number s) s.label; what = named_what (target (s ∷ before) rest) s.what }
    ∷ named_behind (s ∷ before) rest

-- the statements of a source, in its order, with names for local labels
abbrev pub in_names : List Statement → List Statement
in_names statements = named_behind [] statements
