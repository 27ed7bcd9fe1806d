-- Worked rows: what some lines of Thumb state say. This project's.
use Rattle.std.proofs.Common.{◌≡◌, ℕ, List, [], ◌∷◌, true, false, refl, Some, codes}
use Rattle.std.specs.Prelude.{Result, Ok, Err}
use Rattle.sdt_fault.specs.declared.kinds.LineKind.{LineKind}
use Rattle.sdt_fault.specs.declared.kinds.LineKind.TheVariants.{Syntax, UnknownWord}
use Rattle.sdt_word.specs.declared.codes.Condition.TheVariants as condition
use Rattle.thumb_isa.specs.declared.instr.HighOperation.TheVariants as high
use Rattle.thumb_isa.specs.declared.instr.ThumbOperation.TheVariants as operation
use Rattle.asm_model.specs.declared.exprs.Expr.{Expr}
use Rattle.asm_model.specs.declared.exprs.ExprItem.{ExprItem}
use Rattle.asm_model.specs.declared.exprs.ExprItem.TheVariants as item
use Rattle.asm_model.specs.declared.exprs.Part.{Part}
use Rattle.asm_model.specs.declared.exprs.Part.TheVariants as part
use Rattle.asm_model.specs.declared.operands.ListItem.TheVariants as entry
use Rattle.asm_model.specs.declared.operands.Register.TheVariants as register
use Rattle.asm_model.specs.declared.operands.ThumbOperand.TheVariants as operand
use Rattle.asm_model.specs.declared.statements.What.{What}
use Rattle.asm_model.specs.declared.statements.What.TheVariants as what
use Rattle.asm_model.specs.declared.thumb_lines.ThumbLine.TheVariants as line
use Rattle.asm_model.specs.declared.tokens.Token.{Token}
use Rattle.asm_model.specs.declared.tokens.TokenKind.{TokenKind}
use Rattle.asm_model.specs.declared.tokens.TokenKind.TheVariants as kind
use Rattle.asm_model.specs.declared.values.Value.TheVariants as value
use Rattle.asm_model.specs.Grammar.{Parses, Leaf, operand as leaf, plain, tighter}
use Rattle.asm_model.specs.Operands.{depth_behind}
use Rattle.asm_model.specs.Parts.{piece}
use Rattle.asm_model.specs.Registers.{call_register, numbered_register, register_named, special_register}
use Rattle.asm_model.specs.Says.{unnamed}
use Rattle.asm_arm.specs.Mnemonics as arm
use Rattle.asm_thumb.specs.LineForms.{Reads}
use Rattle.asm_thumb.specs.Mnemonics.{core_named, operation_named}

abbrev token : TokenKind → ℕ → ℕ → Token
token kind start end = record { kind = kind; start = start; end = end }

-- what a line says, from its operation and the tokens behind it
abbrev Says : List ℕ → Token → List Token → Result What LineKind → Type 0
Says text o ts r = Reads text (unnamed o.kind) (operation_named (piece text o)) ts r

abbrev leaf_of : ExprItem → Expr
leaf_of i = record { items = i ∷ [] }

abbrev number : ℕ → Expr
number n = leaf_of (item.Constant (value.Number n))

abbrev name : List ℕ → Expr
name s = leaf_of (item.Name s)

-- one operand alone
parsed : (ps : List Part) (i : ExprItem) → ps ≡ part.Operand i ∷ [] → plain i ≡ Some i → Parses ps (Ok (leaf_of i))
parsed ps i e p =
    rw e (Leaf i, tighter 5 _ _ (tighter 4 _ _ (tighter 3 _ _ (tighter 2 _ _ (tighter 1 _ _ (tighter 0 _ _ (leaf (part.Operand i) i p)))))), refl)

-- ` ADD r0,r1,#5`
pub sum_of_three : Says (codes " ADD r0,r1,#5") (token kind.Name 1 4)
    ((token kind.Name 5 7) ∷ (token kind.Sign 7 8) ∷ (token kind.Name 8 10) ∷ (token kind.Sign 10 11) ∷ (token kind.Sign 11 12) ∷ (token kind.Number 12 13)
    ∷ [])
    (Ok (what.Thumb (line.AddSubtract false (register.Number 0) (register.Number 1) (operand.Number (number 5)))))
unfolding operation_named core_named depth_behind register_named numbered_register special_register call_register
sum_of_three = (Ok (number 5), parsed _ (item.Constant (value.Number 5)) refl refl, refl)

-- ` MOV r0,r1`
pub low_move : Says (codes " MOV r0,r1") (token kind.Name 1 4)
    ((token kind.Name 5 7) ∷ (token kind.Sign 7 8) ∷ (token kind.Name 8 10) ∷ [])
    (Ok (what.Thumb (line.AddSubtract false (register.Number 0) (register.Number 1) (operand.Number (number 0)))))
unfolding operation_named core_named depth_behind register_named numbered_register special_register call_register
low_move = refl

-- ` MOV r8,r1`
pub high_move : Says (codes " MOV r8,r1") (token kind.Name 1 4)
    ((token kind.Name 5 7) ∷ (token kind.Sign 7 8) ∷ (token kind.Name 8 10) ∷ [])
    (Ok (what.Thumb (line.HighRegister high.Mov (register.Number 8) (register.Number 1))))
unfolding operation_named core_named depth_behind register_named numbered_register special_register call_register
high_move = refl

-- ` MOV x,r1`
pub named_move : Says (codes " MOV x,r1") (token kind.Name 1 4)
    ((token kind.Name 5 6) ∷ (token kind.Sign 6 7) ∷ (token kind.Name 7 9) ∷ [])
    (Ok (what.Thumb (line.HighRegister high.Mov (register.Named (codes "x")) (register.Number 1))))
unfolding operation_named core_named depth_behind register_named numbered_register special_register call_register
named_move = refl

-- ` ADD r0,r1`
pub low_sum : Says (codes " ADD r0,r1") (token kind.Name 1 4)
    ((token kind.Name 5 7) ∷ (token kind.Sign 7 8) ∷ (token kind.Name 8 10) ∷ [])
    (Ok (what.Thumb (line.AddSubtract false (register.Number 0) (register.Number 0) (operand.Register (register.Number 1)))))
unfolding operation_named core_named depth_behind register_named numbered_register special_register call_register
low_sum = refl

-- ` CMP r0,r1`
pub low_comparison : Says (codes " CMP r0,r1") (token kind.Name 1 4)
    ((token kind.Name 5 7) ∷ (token kind.Sign 7 8) ∷ (token kind.Name 8 10) ∷ [])
    (Ok (what.Thumb (line.DataRegister operation.Cmp (register.Number 0) (register.Number 1))))
unfolding operation_named core_named depth_behind register_named numbered_register special_register call_register
low_comparison = refl

-- ` SUB r0,r1`
pub no_difference_of_two : Says (codes " SUB r0,r1") (token kind.Name 1 4)
    ((token kind.Name 5 7) ∷ (token kind.Sign 7 8) ∷ (token kind.Name 8 10) ∷ [])
    (Err Syntax)
unfolding operation_named core_named depth_behind register_named numbered_register special_register call_register
no_difference_of_two = refl

-- ` ADD r0,sp,#8`
pub stack_address : Says (codes " ADD r0,sp,#8") (token kind.Name 1 4)
    ((token kind.Name 5 7) ∷ (token kind.Sign 7 8) ∷ (token kind.Name 8 10) ∷ (token kind.Sign 10 11) ∷ (token kind.Sign 11 12) ∷ (token kind.Number 12 13)
    ∷ [])
    (Ok (what.Thumb (line.LoadAddress true (register.Number 0) (number 8))))
unfolding operation_named core_named depth_behind register_named numbered_register special_register call_register
stack_address = (Ok (number 8), parsed _ (item.Constant (value.Number 8)) refl refl, refl)

-- ` SUB sp,#8`
pub stack_down : Says (codes " SUB sp,#8") (token kind.Name 1 4)
    ((token kind.Name 5 7) ∷ (token kind.Sign 7 8) ∷ (token kind.Sign 8 9) ∷ (token kind.Number 9 10) ∷ [])
    (Ok (what.Thumb (line.AdjustStack true (number 8))))
unfolding operation_named core_named depth_behind register_named numbered_register special_register call_register
stack_down = (Ok (number 8), parsed _ (item.Constant (value.Number 8)) refl refl, refl)

-- ` LDR r0,[sp,#8]`
pub stack_load : Says (codes " LDR r0,[sp,#8]") (token kind.Name 1 4)
    ((token kind.Name 5 7) ∷ (token kind.Sign 7 8) ∷ (token kind.Sign 8 9) ∷ (token kind.Name 9 11) ∷ (token kind.Sign 11 12) ∷ (token kind.Sign 12 13)
    ∷ (token kind.Number 13 14) ∷ (token kind.Sign 14 15) ∷ [])
    (Ok (what.Thumb (line.TransferStack true (register.Number 0) (number 8))))
unfolding operation_named core_named depth_behind register_named numbered_register special_register call_register
stack_load = (Ok (number 8), parsed _ (item.Constant (value.Number 8)) refl refl, refl)

-- ` STRH r0,[r1]`
pub base_alone : Says (codes " STRH r0,[r1]") (token kind.Name 1 5)
    ((token kind.Name 6 8) ∷ (token kind.Sign 8 9) ∷ (token kind.Sign 9 10) ∷ (token kind.Name 10 12) ∷ (token kind.Sign 12 13) ∷ [])
    (Ok (what.Thumb (line.TransferHalf false (register.Number 0) (register.Number 1) (number 0))))
unfolding operation_named core_named depth_behind register_named numbered_register special_register call_register
base_alone = refl

-- ` LDRSB r0,[r1,#4]`
pub no_signed_number : Says (codes " LDRSB r0,[r1,#4]") (token kind.Name 1 6)
    ((token kind.Name 7 9) ∷ (token kind.Sign 9 10) ∷ (token kind.Sign 10 11) ∷ (token kind.Name 11 13) ∷ (token kind.Sign 13 14) ∷ (token kind.Sign 14 15)
    ∷ (token kind.Number 15 16) ∷ (token kind.Sign 16 17) ∷ [])
    (Err Syntax)
unfolding operation_named core_named depth_behind register_named numbered_register special_register call_register
no_signed_number = refl

-- ` PUSH {r0-r3,lr}`
pub push : Says (codes " PUSH {r0-r3,lr}") (token kind.Name 1 5)
    ((token kind.Sign 6 7) ∷ (token kind.Name 7 9) ∷ (token kind.Sign 9 10) ∷ (token kind.Name 10 12) ∷ (token kind.Sign 12 13) ∷ (token kind.Name 13 15)
    ∷ (token kind.Sign 15 16) ∷ [])
    (Ok (what.Thumb (line.PushPop false (record { items = entry.Range (register.Number 0) (register.Number 3) ∷ entry.One (register.Number 14) ∷ [] }))))
unfolding operation_named core_named depth_behind register_named numbered_register special_register call_register
push = refl

-- ` AND r8,r1`, whose registers are judged by the row
pub high_register : Says (codes " AND r8,r1") (token kind.Name 1 4)
    ((token kind.Name 5 7) ∷ (token kind.Sign 7 8) ∷ (token kind.Name 8 10) ∷ [])
    (Ok (what.Thumb (line.DataRegister operation.And (register.Number 8) (register.Number 1))))
unfolding operation_named core_named depth_behind register_named numbered_register special_register call_register
high_register = refl

-- ` BNE f`
pub branch : Says (codes " BNE f") (token kind.Name 1 4)
    ((token kind.Name 5 6) ∷ [])
    (Ok (what.Thumb (line.BranchConditional condition.Ne (name (codes "f")))))
unfolding operation_named core_named depth_behind register_named numbered_register special_register call_register
branch = (Ok (name (codes "f")), parsed _ (item.Name (codes "f")) refl refl, refl)

-- ` BAL f`
pub no_branch_always : Says (codes " BAL f") (token kind.Name 1 4)
    ((token kind.Name 5 6) ∷ [])
    (Err UnknownWord)
unfolding operation_named core_named depth_behind register_named numbered_register special_register call_register arm.operation_named arm.data_named
    arm.data_stem arm.multiply_named arm.multiply_stem arm.long_named arm.long_stem arm.moving_named arm.transfer_named arm.transfer_stem arm.block_named
    arm.block_stem arm.swap_named arm.swap_stem arm.other_named arm.plain_named arm.plain_stem arm.long_address_named arm.long_address_stem arm.branch_named
    arm.short_branch_stem arm.branch_stem arm.condition_named
no_branch_always = refl
