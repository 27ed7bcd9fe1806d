-- Statements as lines say them. Their expressions are what tokens spell, registers are 0 to 15, and what an instruction's
-- form leaves out is register 0. Nothing that they load is a place as a constant. SDT 2.50 Reference Guide, chapter on the
-- assembler.
use Rattle.std.specs.Prelude.{◌≡◌, ◌≢◌, ◌<◌, ℕ, List, [], ◌∷◌, ◌++◌, Bool, true, false, Option, Some, None}
use Rattle.std.specs.List.{AllByRecursion}
use Rattle.sdt_word.specs.declared.codes.Condition.{Condition}
use Rattle.sdt_word.specs.declared.codes.Condition.TheVariants as condition
use Rattle.arm_isa.specs.declared.instr.Operation.{Operation}
use Rattle.arm_isa.specs.declared.instr.Operation.TheVariants.{Tst, Teq, Cmp, Cmn, Mov, Mvn}
use Rattle.arm_isa.specs.declared.instr.HalfKind.{HalfKind}
use Rattle.arm_isa.specs.declared.instr.HalfKind.TheVariants.{Half, SignedByte, SignedHalf}
use Rattle.thumb_isa.specs.declared.instr.HighOperation.{HighOperation}
use Rattle.thumb_isa.specs.declared.instr.HighOperation.TheVariants as high
use Rattle.asm_model.specs.declared.exprs.Expr.{Expr}
use Rattle.asm_model.specs.declared.exprs.Part.{Part}
use Rattle.asm_model.specs.declared.operands.Register.{Register}
use Rattle.asm_model.specs.declared.operands.Register.TheVariants as register
use Rattle.asm_model.specs.declared.operands.Shift.{Shift}
use Rattle.asm_model.specs.declared.operands.Shift.TheVariants as shift
use Rattle.asm_model.specs.declared.operands.Indexing.{Indexing}
use Rattle.asm_model.specs.declared.operands.Indexing.TheVariants as indexing
use Rattle.asm_model.specs.declared.operands.Address.{Address}
use Rattle.asm_model.specs.declared.operands.Address.TheVariants as address
use Rattle.asm_model.specs.declared.operands.HalfOffset.{HalfOffset}
use Rattle.asm_model.specs.declared.operands.HalfOffset.TheVariants as half
use Rattle.asm_model.specs.declared.operands.ListItem.{ListItem}
use Rattle.asm_model.specs.declared.operands.ListItem.TheVariants as item
use Rattle.asm_model.specs.declared.operands.StatusFields.{StatusFields}
use Rattle.asm_model.specs.declared.operands.LiteralAddress.{LiteralAddress}
use Rattle.asm_model.specs.declared.operands.LiteralAddress.TheVariants as literal
use Rattle.asm_model.specs.declared.operands.ThumbOperand.{ThumbOperand}
use Rattle.asm_model.specs.declared.operands.ThumbOperand.TheVariants as operand
use Rattle.asm_model.specs.declared.arm_lines.ArmLine.{ArmLine}
use Rattle.asm_model.specs.declared.arm_lines.ArmLine.TheVariants as arm
use Rattle.asm_model.specs.declared.thumb_lines.ThumbLine.{ThumbLine}
use Rattle.asm_model.specs.declared.thumb_lines.ThumbLine.TheVariants as thumb
use Rattle.asm_model.specs.declared.directives.Boundary.{Boundary}
use Rattle.asm_model.specs.declared.directives.Boundary.TheVariants as limit
use Rattle.asm_model.specs.declared.directives.RnOperand.{RnOperand}
use Rattle.asm_model.specs.declared.directives.RnOperand.TheVariants as rn
use Rattle.asm_model.specs.declared.directives.DirectiveLine.{DirectiveLine}
use Rattle.asm_model.specs.declared.directives.DirectiveLine.TheVariants as line
use Rattle.asm_model.specs.declared.statements.PseudoLine.{PseudoLine}
use Rattle.asm_model.specs.declared.statements.PseudoLine.TheVariants as pseudo
use Rattle.asm_model.specs.declared.statements.Statement.{Statement}
use Rattle.asm_model.specs.declared.statements.What.{What}
use Rattle.asm_model.specs.declared.statements.What.TheVariants as what
use Rattle.asm_model.specs.Grammar.{Tree, postfix, IsSpelled}
use Rattle.asm_model.specs.Labels.{defined_by}
use Rattle.asm_model.specs.Sound.{HaveNoPlaces, IsPlain}
use Rattle.asm_model.specs.Named.{AllItemsNamed}

-- ---- operands

-- an expression is what tokens spell: no constant in it is a place, and names in it have characters
pub record IsRead (e : Expr) : Type 0 where
  pub parts : List Part
  pub tree : Tree
  pub spelled : IsSpelled parts tree
  pub items : e.items ≡ postfix tree
  pub plain : HaveNoPlaces e.items
  pub named : AllItemsNamed e.items

abbrev pub AllRead : List Expr → Type 0
AllRead [] = Unit {0}
AllRead (e ∷ es) = IsRead e × AllRead es

abbrev pub RegisterSaid : Register → Type 0
RegisterSaid (register.Number n) = n < 16
RegisterSaid (register.Named name) = Unit {0}

abbrev pub ShiftSaid : Shift → Type 0
ShiftSaid shift.Unshifted = Unit {0}
ShiftSaid (shift.By kind e) = IsRead e
ShiftSaid shift.Extended = Unit {0}

abbrev pub AddressSaid : Address → Type 0
AddressSaid (address.Based rn ix e) = RegisterSaid rn × IsRead e
AddressSaid (address.Label e) = IsRead e

abbrev pub HalfOffsetSaid : HalfOffset → Type 0
HalfOffsetSaid (half.Number e) = IsRead e
HalfOffsetSaid (half.Register subtract rm) = RegisterSaid rm

abbrev pub ItemSaid : ListItem → Type 0
ItemSaid (item.One r) = RegisterSaid r
ItemSaid (item.Range first last) = RegisterSaid first × RegisterSaid last

abbrev pub AllItemsSaid : List ListItem → Type 0
AllItemsSaid [] = Unit {0}
AllItemsSaid (i ∷ is) = ItemSaid i × AllItemsSaid is

-- ---- instructions

-- a comparison sets the flags and names no Rd
pub record IsComparison (set_flags : Bool) (rd : Register) : Type 0 where
  pub flags : set_flags ≡ true
  pub none : rd ≡ register.Number 0

-- what data processing leaves out: a move names no Rn
abbrev pub OperationSaid : Operation → Bool → Register → Register → Type 0
OperationSaid Tst set_flags rd rn = IsComparison set_flags rd
OperationSaid Teq set_flags rd rn = IsComparison set_flags rd
OperationSaid Cmp set_flags rd rn = IsComparison set_flags rd
OperationSaid Cmn set_flags rd rn = IsComparison set_flags rd
OperationSaid Mov set_flags rd rn = rn ≡ register.Number 0
OperationSaid Mvn set_flags rd rn = rn ≡ register.Number 0
OperationSaid _ set_flags rd rn = Unit {0}

abbrev pub FactorSaid : Bool → Register → Type 0
FactorSaid true rn = Unit {0}
FactorSaid false rn = rn ≡ register.Number 0

-- a store moves a half-word
abbrev pub HalfSaid : Bool → HalfKind → Type 0
HalfSaid true kind = Unit {0}
HalfSaid false Half = Unit {0}
HalfSaid false SignedByte = ⊥
HalfSaid false SignedHalf = ⊥

-- the suffix T is one of words and bytes
abbrev pub IsUntranslated : Indexing → Type 0
IsUntranslated indexing.Translated = ⊥
IsUntranslated indexing.TranslatedBefore = ⊥
IsUntranslated _ = Unit {0}

-- of the four letters, one at least
abbrev pub FieldsSaid : Option StatusFields → Type 0
FieldsSaid None = Unit {0}
FieldsSaid (Some f) = (0 < f.mask) × (f.mask < 16)

abbrev pub ArmSaid : ArmLine → Type 0
ArmSaid (arm.DataImmediate condition operation set_flags rd rn e) =
    RegisterSaid rd × RegisterSaid rn × OperationSaid operation set_flags rd rn × IsRead e
ArmSaid (arm.DataShifted condition operation set_flags rd rn rm by) =
    RegisterSaid rd × RegisterSaid rn × OperationSaid operation set_flags rd rn × RegisterSaid rm × ShiftSaid by
ArmSaid (arm.DataRegisterShifted condition operation set_flags rd rn rm kind rs) =
    RegisterSaid rd × RegisterSaid rn × OperationSaid operation set_flags rd rn × RegisterSaid rm × RegisterSaid rs
ArmSaid (arm.Multiply condition accumulate set_flags rd rm rs rn) =
    RegisterSaid rd × RegisterSaid rm × RegisterSaid rs × RegisterSaid rn × FactorSaid accumulate rn
ArmSaid (arm.MultiplyLong condition signed accumulate set_flags low high rm rs) =
    RegisterSaid low × RegisterSaid high × RegisterSaid rm × RegisterSaid rs
ArmSaid (arm.Swap condition byte rd rm rn) = RegisterSaid rd × RegisterSaid rm × RegisterSaid rn
ArmSaid (arm.BranchExchange condition rm) = RegisterSaid rm
ArmSaid (arm.ReadStatus condition status rd) = RegisterSaid rd
ArmSaid (arm.WriteStatus condition fields rm) = FieldsSaid fields × RegisterSaid rm
ArmSaid (arm.WriteStatusImmediate condition fields e) = FieldsSaid fields × IsRead e
ArmSaid (arm.TransferImmediate condition load byte rd a) = RegisterSaid rd × AddressSaid a
ArmSaid (arm.TransferShifted condition load byte rd rn ix subtract rm by) =
    RegisterSaid rd × RegisterSaid rn × RegisterSaid rm × ShiftSaid by
ArmSaid (arm.TransferHalf condition load kind rd rn ix o) =
    RegisterSaid rd × RegisterSaid rn × HalfSaid load kind × IsUntranslated ix × HalfOffsetSaid o
ArmSaid (arm.TransferBlock condition load mode rn write_back list user) = RegisterSaid rn × AllItemsSaid list.items
ArmSaid (arm.Branch condition link e) = IsRead e
ArmSaid (arm.SoftwareInterrupt condition e) = IsRead e

-- BX names no Rd
abbrev pub HighSaid : HighOperation → Register → Type 0
HighSaid high.Bx rd = rd ≡ register.Number 0
HighSaid _ rd = Unit {0}

-- a branch that always goes is no branch with a condition
abbrev pub IsConditional : Condition → Type 0
IsConditional condition.Al = ⊥
IsConditional _ = Unit {0}

abbrev pub ThumbOperandSaid : ThumbOperand → Type 0
ThumbOperandSaid (operand.Register rn) = RegisterSaid rn
ThumbOperandSaid (operand.Number e) = IsRead e

abbrev pub LiteralSaid : LiteralAddress → Type 0
LiteralSaid (literal.Offset e) = IsRead e
LiteralSaid (literal.Label e) = IsRead e

abbrev pub ThumbSaid : ThumbLine → Type 0
ThumbSaid (thumb.ShiftImmediate by rd rs e) = RegisterSaid rd × RegisterSaid rs × IsRead e
ThumbSaid (thumb.AddSubtract subtract rd rs o) = RegisterSaid rd × RegisterSaid rs × ThumbOperandSaid o
ThumbSaid (thumb.DataImmediate operation rd e) = RegisterSaid rd × IsRead e
ThumbSaid (thumb.DataRegister operation rd rs) = RegisterSaid rd × RegisterSaid rs
ThumbSaid (thumb.HighRegister operation rd rs) = RegisterSaid rd × RegisterSaid rs × HighSaid operation rd
ThumbSaid (thumb.LoadLiteral rd a) = RegisterSaid rd × LiteralSaid a
ThumbSaid (thumb.TransferRegister load byte rd rn ro) = RegisterSaid rd × RegisterSaid rn × RegisterSaid ro
ThumbSaid (thumb.TransferSigned kind rd rn ro) = RegisterSaid rd × RegisterSaid rn × RegisterSaid ro
ThumbSaid (thumb.TransferImmediate load byte rd rn e) = RegisterSaid rd × RegisterSaid rn × IsRead e
ThumbSaid (thumb.TransferHalf load rd rn e) = RegisterSaid rd × RegisterSaid rn × IsRead e
ThumbSaid (thumb.TransferStack load rd e) = RegisterSaid rd × IsRead e
ThumbSaid (thumb.LoadAddress stack rd e) = RegisterSaid rd × IsRead e
ThumbSaid (thumb.AdjustStack subtract e) = IsRead e
ThumbSaid (thumb.PushPop load list) = AllItemsSaid list.items
ThumbSaid (thumb.TransferMultiple load rn list) = RegisterSaid rn × AllItemsSaid list.items
ThumbSaid (thumb.BranchConditional c e) = IsConditional c × IsRead e
ThumbSaid (thumb.SoftwareInterrupt e) = IsRead e
ThumbSaid (thumb.Branch e) = IsRead e
ThumbSaid (thumb.BranchLink e) = IsRead e

abbrev pub PseudoSaid : PseudoLine → Type 0
PseudoSaid (pseudo.LoadConstant condition rd e) = RegisterSaid rd × IsRead e
PseudoSaid (pseudo.Address condition rd e) = RegisterSaid rd × IsRead e
PseudoSaid (pseudo.LongAddress condition rd e) = RegisterSaid rd × IsRead e
PseudoSaid pseudo.NoOperation = Unit {0}

-- ---- directives

abbrev pub BoundaryRead : Boundary → Type 0
BoundaryRead limit.Word = Unit {0}
BoundaryRead (limit.Multiple e) = IsRead e
BoundaryRead (limit.Behind e f) = IsRead e × IsRead f

abbrev pub GivenSaid : RnOperand → Type 0
GivenSaid (rn.Register n) = n < 16
GivenSaid (rn.Number e) = IsRead e

abbrev pub DirectiveSaid : DirectiveLine → Type 0
DirectiveSaid (line.Area name a) = AllRead a.alignments
DirectiveSaid line.Entry = Unit {0}
DirectiveSaid line.End = Unit {0}
DirectiveSaid (line.Export name) = Unit {0}
DirectiveSaid (line.Import name mark) = Unit {0}
DirectiveSaid (line.Extern name mark) = Unit {0}
DirectiveSaid (line.Keep name) = Unit {0}
DirectiveSaid (line.Equ e) = IsRead e
DirectiveSaid (line.Rn r) = GivenSaid r
DirectiveSaid line.Rout = Unit {0}
DirectiveSaid (line.Assert e) = IsRead e
DirectiveSaid line.Nofp = Unit {0}
DirectiveSaid (line.Opt e) = IsRead e
DirectiveSaid line.Ttl = Unit {0}
DirectiveSaid line.Subt = Unit {0}
DirectiveSaid (line.Constants item es) = AllRead es
DirectiveSaid (line.Space e) = IsRead e
DirectiveSaid (line.Align b) = BoundaryRead b
DirectiveSaid line.Ltorg = Unit {0}
DirectiveSaid line.Data = Unit {0}
DirectiveSaid (line.Map e) = IsRead e
DirectiveSaid (line.Field e) = IsRead e
DirectiveSaid line.Code16 = Unit {0}
DirectiveSaid line.Code32 = Unit {0}

-- ---- statements

abbrev pub WhatSaid : What → Type 0
WhatSaid what.Nothing = Unit {0}
WhatSaid (what.Arm l) = ArmSaid l
WhatSaid (what.Thumb l) = ThumbSaid l
WhatSaid (what.Pseudo l) = PseudoSaid l
WhatSaid (what.Directive l) = DirectiveSaid l

abbrev pub PseudoLoadsPlain : PseudoLine → Type 0
PseudoLoadsPlain (pseudo.LoadConstant condition rd e) = HaveNoPlaces e.items
PseudoLoadsPlain (pseudo.Address condition rd e) = Unit {0}
PseudoLoadsPlain (pseudo.LongAddress condition rd e) = Unit {0}
PseudoLoadsPlain pseudo.NoOperation = Unit {0}

-- in what a statement loads no constant is a place
abbrev pub LoadsPlain : What → Type 0
LoadsPlain what.Nothing = Unit {0}
LoadsPlain (what.Arm l) = Unit {0}
LoadsPlain (what.Thumb l) = Unit {0}
LoadsPlain (what.Pseudo l) = PseudoLoadsPlain l
LoadsPlain (what.Directive l) = Unit {0}

pub record IsSaid (s : Statement) : Type 0 where
  pub plain : IsPlain (defined_by s)
  pub read : WhatSaid s.what
  pub loaded : LoadsPlain s.what

abbrev pub AllSaid : List Statement → Type 0
AllSaid [] = Unit {0}
AllSaid (s ∷ ss) = IsSaid s × AllSaid ss

-- ---- names

abbrev pub directive_names : DirectiveLine → List (List ℕ)
directive_names (line.Area name a) = name ∷ []
directive_names line.Entry = []
directive_names line.End = []
directive_names (line.Export name) = name ∷ []
directive_names (line.Import name mark) = name ∷ []
directive_names (line.Extern name mark) = name ∷ []
directive_names (line.Keep name) = name ∷ []
directive_names (line.Equ e) = []
directive_names (line.Rn r) = []
directive_names line.Rout = []
directive_names (line.Assert e) = []
directive_names line.Nofp = []
directive_names (line.Opt e) = []
directive_names line.Ttl = []
directive_names line.Subt = []
directive_names (line.Constants item es) = []
directive_names (line.Space e) = []
directive_names (line.Align b) = []
directive_names line.Ltorg = []
directive_names line.Data = []
directive_names (line.Map e) = []
directive_names (line.Field e) = []
directive_names line.Code16 = []
directive_names line.Code32 = []

abbrev pub what_names : What → List (List ℕ)
what_names what.Nothing = []
what_names (what.Arm l) = []
what_names (what.Thumb l) = []
what_names (what.Pseudo l) = []
what_names (what.Directive l) = directive_names l

abbrev pub label_names : Option (List ℕ) → List (List ℕ)
label_names None = []
label_names (Some name) = name ∷ []

-- the names that a statement says outside of expressions
abbrev pub said_names : Statement → List (List ℕ)
said_names s = label_names s.label ++ what_names s.what

abbrev pub HoldsNoZero : List ℕ → Type 0
HoldsNoZero name = AllByRecursion (λ b. b ≢ 0) name

-- these names hold no zero byte
abbrev pub HasTexts : Statement → Type 0
HasTexts s = AllByRecursion HoldsNoZero (said_names s)

abbrev pub AllHaveTexts : List Statement → Type 0
AllHaveTexts statements = AllByRecursion HasTexts statements
