-- Worked rows of Thumb state: half-words of instructions, by the tables of the ARM Architecture Reference Manual, and the
-- kinds of what has none.
use Rattle.std.proofs.Common.{◌≡◌, ℕ, ◌+◌, List, [], ◌∷◌, true, false, refl, Option, Some, None, codes}
use Rattle.std.specs.Prelude.{Result, Ok, Err}
use Rattle.sdt_word.specs.declared.codes.Condition.TheVariants.{Al, Ne}
use Rattle.sdt_word.specs.Rows.{word_of}
use Rattle.sdt_fault.specs.declared.kinds.LineKind.{LineKind}
use Rattle.sdt_fault.specs.declared.kinds.LineKind.TheVariants.{BadOperand, Constant, OutOfRange, Syntax}
use Rattle.thumb_isa.specs.ThumbRows.{thumb_row, thumb_fields}
use Rattle.thumb_isa.specs.declared.instr.HighOperation.TheVariants as high
use Rattle.thumb_isa.specs.declared.instr.ImmediateOperation.TheVariants as immediate
use Rattle.thumb_isa.specs.declared.instr.ThumbInstr.{ThumbInstr}
use Rattle.thumb_isa.specs.declared.instr.ThumbInstr.TheVariants.{BranchLink}
use Rattle.thumb_isa.specs.declared.instr.ThumbShift.TheVariants as shift
use Rattle.asm_model.specs.declared.exprs.Expr.{Expr}
use Rattle.asm_model.specs.declared.exprs.ExprItem.TheVariants as item
use Rattle.asm_model.specs.declared.operands.ListItem.TheVariants as listed
use Rattle.asm_model.specs.declared.operands.LiteralAddress.TheVariants as literal
use Rattle.asm_model.specs.declared.operands.Register.{Register}
use Rattle.asm_model.specs.declared.operands.Register.TheVariants as register
use Rattle.asm_model.specs.declared.operands.ThumbOperand.TheVariants as operand
use Rattle.asm_model.specs.declared.statements.PseudoLine.{PseudoLine}
use Rattle.asm_model.specs.declared.statements.PseudoLine.TheVariants as pseudo
use Rattle.asm_model.specs.declared.thumb_lines.ThumbLine.{ThumbLine}
use Rattle.asm_model.specs.declared.thumb_lines.ThumbLine.TheVariants as thumb
use Rattle.asm_model.specs.declared.statements.What.TheVariants as what
use Rattle.asm_model.specs.declared.values.Value.TheVariants.{Number}
use Rattle.asm_model.specs.AtLine.{Nameless}
use Rattle.asm_model.specs.Entries.{label_entry, imported_entry}
use Rattle.source_model.specs.declared.codes.ThumbCode.{ThumbCode}
use Rattle.source_model.specs.declared.codes.ThumbCode.TheVariants.{One, Pair}
use Rattle.source_model.specs.Contexts.{Context}
use Rattle.source_model.specs.Objects.{Source, relocs_of, symbol_number, unit_bytes}
use Rattle.source_model.specs.Registers.{operand_kinds}
use Rattle.source_model.specs.ThumbForms.{thumb_instruction, thumb_pseudo}
use Rattle.source_model.specs.Units.{LinkPair}

-- ---- a statement at an offset of area 0; start stands at 0 there, ahead at 0x200, and far is imported

abbrev at : ℕ → Context
at offset = record {
  names = label_entry (codes "start") (Some 0) 0 (Some 2) true ∷ label_entry (codes "ahead") (Some 0) 0x200 (Some 2) true ∷ imported_entry (codes "far") ∷ [];
  line = record { area = Some 0; offset = offset; map = 0; thumb = true; definition = Nameless };
  registers = (codes "low", 2) ∷ (codes "frame", 9) ∷ (codes "stack", 13) ∷ [];
}

abbrev number : ℕ → Expr
number n = record { items = item.Constant (Number n) ∷ [] }

abbrev name : List ℕ → Expr
name s = record { items = item.Name s ∷ [] }

abbrev here : Expr
here = record { items = item.Here ∷ [] }

abbrev r : ℕ → Register
r n = register.Number n

abbrev half : ThumbInstr → ℕ
half i = word_of (thumb_row i) (thumb_fields i)

abbrev halves : ThumbCode → List ℕ
halves (One i) = half i ∷ []
halves (Pair f g) = half (BranchLink false f) ∷ half (BranchLink true g) ∷ []

abbrev all_halves : Result ThumbCode LineKind → Result (List ℕ) LineKind
all_halves (Ok i) = Ok (halves i)
all_halves (Err k) = Err k

-- what a statement at 0x100 says
abbrev says : ThumbLine → Result (List ℕ) LineKind
says l = all_halves (thumb_instruction (at 0x100) l)

abbrev a_half : Result ThumbInstr LineKind → Result ℕ LineKind
a_half (Ok i) = Ok (half i)
a_half (Err k) = Err k

-- what a pseudo-instruction at 0x102 says
abbrev means : Option ℕ → PseudoLine → Result ℕ LineKind
means word l = a_half (thumb_pseudo (at 0x102) word l)

-- ---- numbers

pub moved : says (thumb.DataImmediate immediate.Mov (r 0) (number 1)) ≡ Ok (0x2001 ∷ [])
moved = refl

pub moved_too_large : says (thumb.DataImmediate immediate.Mov (r 0) (number 256)) ≡ Err Constant
moved_too_large = refl

pub moved_to_high : says (thumb.DataImmediate immediate.Mov (register.Named (codes "frame")) (name (codes "start"))) ≡ Err BadOperand
moved_to_high = refl

pub shifted : says (thumb.ShiftImmediate shift.Lsl (r 0) (r 1) (number 2)) ≡ Ok (0x0088 ∷ [])
shifted = refl

pub shifted_too_far : says (thumb.ShiftImmediate shift.Lsr (r 0) (r 1) (number 33)) ≡ Err OutOfRange
shifted_too_far = refl

pub difference_by_twin : says (thumb.AddSubtract false (r 0) (r 1) (operand.Number (number 0xFFFFFFFD))) ≡ Ok (0x1EC8 ∷ [])
difference_by_twin = refl

pub address_from_stack : says (thumb.AddSubtract false (r 0) (register.Named (codes "stack")) (operand.Number (number 4))) ≡ Ok (0xA801 ∷ [])
address_from_stack = refl

pub no_difference_from_stack : says (thumb.AddSubtract true (r 0) (register.Named (codes "stack")) (operand.Number (number 4))) ≡ Err BadOperand
no_difference_from_stack = refl

pub stack_lowered : says (thumb.AdjustStack false (number 0xFFFFFFF8)) ≡ Ok (0xB082 ∷ [])
stack_lowered = refl

pub stack_by_half_word : says (thumb.AdjustStack false (number 2)) ≡ Err Constant
stack_by_half_word = refl

-- ---- two registers

pub high_move : says (thumb.HighRegister high.Mov (r 8) (r 1)) ≡ Ok (0x4688 ∷ [])
high_move = refl

pub named_move : says (thumb.HighRegister high.Mov (register.Named (codes "low")) (r 1)) ≡ Ok (0x1C0A ∷ [])
named_move = refl

pub exchange : says (thumb.HighRegister high.Bx (r 0) (r 14)) ≡ Ok (0x4770 ∷ [])
exchange = refl

-- ---- transfers

pub farthest_word : says (thumb.TransferImmediate true false (r 0) (r 1) (number 124)) ≡ Ok (0x6FC8 ∷ [])
farthest_word = refl

pub word_too_far : says (thumb.TransferImmediate true false (r 0) (r 1) (number 128)) ≡ Err OutOfRange
word_too_far = refl

pub no_whole_word : says (thumb.TransferImmediate true false (r 0) (r 1) (number 2)) ≡ Err BadOperand
no_whole_word = refl

pub stack_loaded : says (thumb.TransferImmediate true false (r 0) (register.Named (codes "stack")) (number 4)) ≡ Ok (0x9801 ∷ [])
stack_loaded = refl

pub label_loaded : says (thumb.LoadLiteral (r 0) (literal.Label (name (codes "ahead")))) ≡ Ok (0x483F ∷ [])
label_loaded = refl

pub pushed : says (thumb.PushPop false (record { items = listed.Range (r 0) (r 3) ∷ listed.One (r 14) ∷ [] })) ≡ Ok (0xB50F ∷ [])
pushed = refl

pub pc_pushed : says (thumb.PushPop false (record { items = listed.One (r 15) ∷ [] })) ≡ Err BadOperand
pc_pushed = refl

-- ---- branches

pub branch_here : says (thumb.Branch here) ≡ Ok (0xE7FE ∷ [])
branch_here = refl

pub branch_back : says (thumb.Branch (name (codes "start"))) ≡ Ok (0xE77E ∷ [])
branch_back = refl

pub branch_too_far : says (thumb.BranchConditional Ne (name (codes "start"))) ≡ Err OutOfRange
branch_too_far = refl

pub branch_to_import : says (thumb.Branch (name (codes "far"))) ≡ Err BadOperand
branch_to_import = refl

pub call_ahead : says (thumb.BranchLink (name (codes "ahead"))) ≡ Ok (0xF000 ∷ 0xF87E ∷ [])
call_ahead = refl

pub call_left_to_the_linker : says (thumb.BranchLink (name (codes "far"))) ≡ Ok (0xF7FF ∷ 0xFF7E ∷ [])
call_left_to_the_linker = refl

-- ---- pseudo-instructions

pub literal_loaded : means (Some 0x200) (pseudo.LoadConstant Al (r 0) (number 5)) ≡ Ok 0x483F
literal_loaded = refl

pub near_address : means None (pseudo.Address Al (r 0) (name (codes "ahead"))) ≡ Ok 0xA03F
near_address = refl

pub address_behind : means None (pseudo.Address Al (r 0) (name (codes "start"))) ≡ Err OutOfRange
address_behind = refl

pub no_long_address : means None (pseudo.LongAddress Al (r 0) (name (codes "ahead"))) ≡ Err Syntax
no_long_address = refl

pub no_operation : means None pseudo.NoOperation ≡ Ok 0x46C0
no_operation = refl

-- ---- registers that a row has

abbrev frame : Register
frame = register.Named (codes "frame")

abbrev told : ThumbLine → List LineKind
told l = operand_kinds true ((codes "frame", 9) ∷ []) (what.Thumb l)

pub high_shifted : told (thumb.ShiftImmediate shift.Lsl frame (r 0) (number 1)) ≡ BadOperand ∷ []
high_shifted = refl

pub high_moved : told (thumb.HighRegister high.Mov frame (r 0)) ≡ []
high_moved = refl

pub high_pushed : told (thumb.PushPop false (record { items = listed.One frame ∷ [] })) ≡ BadOperand ∷ []
high_pushed = refl

pub link_pushed : told (thumb.PushPop false (record { items = listed.One (r 14) ∷ [] })) ≡ []
link_pushed = refl

-- ---- units

-- a BL from offset 0x100 to 0x200 puts F000 F87E
pub link_bytes : unit_bytes (LinkPair 0 0x7E None) ≡ 0x00 ∷ 0xF0 ∷ 0x7E ∷ 0xF8 ∷ []
link_bytes = refl

-- one that is left to the linker is relocated at its odd offset
pub link_reloc : (s : Source) → relocs_of s (4, LinkPair 0x7FF 0x7FC (Some (codes "f")))
    ≡ record { offset = 5; word = 0x8F000000 + symbol_number s (codes "f") } ∷ []
link_reloc s = refl
