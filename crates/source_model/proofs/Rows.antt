-- Worked rows: words of instructions, and what statements put into their areas.
use Rattle.std.proofs.Common.{◌≡◌, ℕ, List, [], ◌∷◌, true, false, refl, Option, Some, None, codes}
use Rattle.std.specs.Prelude.{Result, Ok, Err}
use Rattle.sdt_word.specs.declared.codes.Condition.TheVariants.{Al, Ne}
use Rattle.sdt_word.specs.declared.codes.ShiftKind.TheVariants.{Lsl, Lsr}
use Rattle.sdt_word.specs.Rows.{word_of}
use Rattle.sdt_fault.specs.declared.kinds.LineKind.{LineKind}
use Rattle.sdt_fault.specs.declared.kinds.LineKind.TheVariants.{UnknownWord, BadOperand, Constant, Forward, WrongType, OutOfRange}
use Rattle.arm_isa.specs.ArmRows.{arm_row, arm_fields}
use Rattle.arm_isa.specs.declared.instr.ArmInstr.{ArmInstr}
use Rattle.arm_isa.specs.declared.instr.HalfKind.TheVariants as kind
use Rattle.arm_isa.specs.declared.instr.Operation.TheVariants.{Add, Mov}
use Rattle.asm_model.specs.declared.exprs.Expr.{Expr}
use Rattle.asm_model.specs.declared.exprs.ExprItem.{ExprItem}
use Rattle.asm_model.specs.declared.exprs.ExprItem.TheVariants as item
use Rattle.asm_model.specs.declared.exprs.BinaryOp.TheVariants as op
use Rattle.asm_model.specs.declared.values.Value.TheVariants.{Number, Words}
use Rattle.asm_model.specs.declared.operands.Register.{Register}
use Rattle.asm_model.specs.declared.operands.Register.TheVariants as register
use Rattle.asm_model.specs.declared.operands.Address.TheVariants as address
use Rattle.asm_model.specs.declared.operands.BlockMode.TheVariants as mode
use Rattle.asm_model.specs.declared.operands.HalfOffset.TheVariants as half
use Rattle.asm_model.specs.declared.operands.Indexing.TheVariants as indexing
use Rattle.asm_model.specs.declared.operands.ListItem.TheVariants as listed
use Rattle.asm_model.specs.declared.operands.Shift.TheVariants as shift
use Rattle.asm_model.specs.declared.arm_lines.ArmLine.{ArmLine}
use Rattle.asm_model.specs.declared.arm_lines.ArmLine.TheVariants as arm
use Rattle.asm_model.specs.declared.directives.DataItem.TheVariants as datum
use Rattle.asm_model.specs.declared.directives.DirectiveLine.TheVariants as line
use Rattle.asm_model.specs.declared.names.LaidName.{LaidName}
use Rattle.asm_model.specs.declared.names.Names.{Names}
use Rattle.asm_model.specs.declared.statements.PseudoLine.{PseudoLine}
use Rattle.asm_model.specs.declared.statements.PseudoLine.TheVariants as pseudo
use Rattle.asm_model.specs.declared.statements.What.TheVariants as what
use Rattle.asm_model.specs.AtLine.{SourceLine, Nameless, with_names}
use Rattle.asm_model.specs.Entries.{label_entry, imported_entry, register_entry, valued_entry, equal_entry}
use Rattle.source_model.specs.Contexts.{Context}
use Rattle.source_model.specs.Registers.{name_kinds, operand_kinds}
use Rattle.source_model.specs.ValueKinds.{statement_kinds}
use Rattle.source_model.specs.Immediates.{immediate, data_immediate}
use Rattle.source_model.specs.ArmForms.{arm_instruction}
use Rattle.source_model.specs.PseudoForms.{pseudo_instructions}
use Rattle.source_model.specs.Units.{Bytes, Word, Nothing, ByArea, BySymbol, units}

-- ---- a statement at offset 8 of area 0; start stands at 0 there, other at 4 of area 1, and far is imported

abbrev faulty_entry : LaidName
faulty_entry = equal_entry [] None (codes "faulty") (Err OutOfRange)

abbrev names : List LaidName
names =
    label_entry (codes "start") (Some 0) 0 (Some 4) false ∷ label_entry (codes "other") (Some 1) 4 (Some 4) false ∷ imported_entry (codes "far")
    ∷ valued_entry (codes "six") (Number 6) false ∷ faulty_entry ∷ register_entry (codes "base") ∷ []

abbrev here : SourceLine
here = record { area = Some 0; offset = 8; map = 0; thumb = false; definition = Nameless }

abbrev context : Context
context = record { names = names; line = here; registers = (codes "base", 9) ∷ [] }

abbrev seen : Names
seen = with_names here names

abbrev items : List ExprItem → Expr
items is = record { items = is }

abbrev number : ℕ → Expr
number n = items (item.Constant (Number n) ∷ [])

abbrev name : List ℕ → Expr
name s = items (item.Name s ∷ [])

abbrev r : ℕ → Register
r n = register.Number n

abbrev words : List ArmInstr → List ℕ
words [] = []
words (i ∷ is) = word_of (arm_row i) (arm_fields i) ∷ words is

abbrev word : Result ArmInstr LineKind → Result ℕ LineKind
word (Ok i) = Ok (word_of (arm_row i) (arm_fields i))
word (Err k) = Err k

abbrev all_words : Result (List ArmInstr) LineKind → Result (List ℕ) LineKind
all_words (Ok is) = Ok (words is)
all_words (Err k) = Err k

abbrev says : ArmLine → Result ℕ LineKind
says l = word (arm_instruction context l)

abbrev means : Option ℕ → PseudoLine → Result (List ℕ) LineKind
means literal l = all_words (pseudo_instructions context literal l)

-- ---- immediate operands

pub least_rotation : says (arm.DataImmediate Al Mov false (r 0) (r 0) (number 0xFF0)) ≡ Ok 0xE3A00EFF
unfolding data_immediate immediate
least_rotation = refl

pub moved_by_twin : says (arm.DataImmediate Al Mov false (r 0) (r 0) (number 0xFFFFFFFF)) ≡ Ok 0xE3E00000
unfolding data_immediate immediate
moved_by_twin = refl

pub added_by_twin : says (arm.DataImmediate Al Add false (r 0) (register.Named (codes "base")) (number 0xFFFFFFFC)) ≡ Ok 0xE2490004
unfolding data_immediate immediate
added_by_twin = refl

pub does_not_encode : says (arm.DataImmediate Al Mov false (r 0) (r 0) (number 0x101)) ≡ Err Constant
unfolding data_immediate immediate
does_not_encode = refl

pub label_as_number : says (arm.DataImmediate Al Mov false (r 0) (r 0) (name (codes "start"))) ≡ Err WrongType
label_as_number = refl

-- ---- shifts

pub shifted_by_32 : says (arm.DataShifted Al Mov false (r 1) (r 0) (r 2) (shift.By Lsr (number 32))) ≡ Ok 0xE1A01022
shifted_by_32 = refl

pub not_shifted_by_32 : says (arm.DataShifted Al Mov false (r 1) (r 0) (r 2) (shift.By Lsl (number 32))) ≡ Err OutOfRange
not_shifted_by_32 = refl

pub extended : says (arm.DataShifted Al Mov true (r 1) (r 0) (r 2) shift.Extended) ≡ Ok 0xE1B01062
extended = refl

-- ---- transfers

pub loaded_below : says (arm.TransferImmediate Al true false (r 0) (address.Based (r 1) indexing.Offset (number 0xFFFFFFFC))) ≡ Ok 0xE5110004
loaded_below = refl

pub loaded_too_far : says (arm.TransferImmediate Al true false (r 0) (address.Based (r 1) indexing.Offset (number 4096))) ≡ Err OutOfRange
loaded_too_far = refl

pub loaded_label : says (arm.TransferImmediate Al true false (r 0) (address.Label (name (codes "start")))) ≡ Ok 0xE51F0010
loaded_label = refl

pub loaded_of_another_area : says (arm.TransferImmediate Al true false (r 0) (address.Label (name (codes "other")))) ≡ Err BadOperand
loaded_of_another_area = refl

pub half_stored : says (arm.TransferHalf Al false kind.Half (r 0) (r 1) indexing.After (half.Number (number 18))) ≡ Ok 0xE0C101B2
half_stored = refl

pub block_stored :
    says (arm.TransferBlock Al false mode.DecrementBefore (r 13) true (record { items = listed.Range (r 0) (r 3) ∷ listed.One (r 14) ∷ [] }) false)
    ≡ Ok 0xE92D400F
block_stored = refl

-- ---- branches

pub branch_back : says (arm.Branch Al false (name (codes "start"))) ≡ Ok 0xEAFFFFFC
branch_back = refl

pub branch_here : says (arm.Branch Ne true (items (item.Here ∷ []))) ≡ Ok 0x1BFFFFFE
branch_here = refl

pub branch_left_to_the_linker : says (arm.Branch Al true (items (item.Name (codes "far") ∷ item.Constant (Number 4) ∷ item.Binary op.Add ∷ []))) ≡ Ok 0xEBFFFFFD
branch_left_to_the_linker = refl

pub branch_to_number : says (arm.Branch Al false (number 0)) ≡ Err BadOperand
branch_to_number = refl

-- ---- pseudo-instructions

pub near_address : means None (pseudo.Address Al (r 0) (name (codes "start"))) ≡ Ok (0xE24F0010 ∷ [])
unfolding immediate
near_address = refl

pub long_address : means None (pseudo.LongAddress Al (r 0) (items (item.Name (codes "start") ∷ item.Constant (Number 0x12354) ∷ item.Binary op.Add ∷ []))) ≡ Ok
    (0xE28F0FD1 ∷ 0xE2800A12 ∷ [])
unfolding immediate
long_address = refl

pub literal_moved : means None (pseudo.LoadConstant Al (r 0) (number 0xFFFFFF00)) ≡ Ok (0xE3E000FF ∷ [])
unfolding data_immediate immediate
literal_moved = refl

pub literal_loaded : means (Some 0x100) (pseudo.LoadConstant Al (r 0) (name (codes "far"))) ≡ Ok (0xE59F00F0 ∷ [])
literal_loaded = refl

pub no_operation : means None pseudo.NoOperation ≡ Ok (0xE1A00000 ∷ [])
no_operation = refl

-- ---- data

pub words_of_labels :
    units context [] seen None (what.Directive (line.Constants datum.Word (number 7 ∷ name (codes "other") ∷ name (codes "far") ∷ [])))
    ≡ Ok (Word (record { number = 7; target = Nothing }) ∷ Word (record { number = 4; target = ByArea 1 })
    ∷ Word (record { number = 0; target = BySymbol (codes "far") }) ∷ [])
words_of_labels = refl

pub bytes_and_strings :
    units context [] seen None (what.Directive (line.Constants datum.Byte (items (item.Constant (Words (codes "ab")) ∷ []) ∷ number 0xFFFFFFFF ∷ [])))
    ≡ Ok (Bytes (97 ∷ 98 ∷ []) ∷ Bytes (255 ∷ []) ∷ [])
bytes_and_strings = refl

pub half_too_large : units context [] seen None (what.Directive (line.Constants datum.HalfWord (number 65536 ∷ []))) ≡ Err OutOfRange
half_too_large = refl

-- ---- EXPORT

abbrev sizes : ℕ → ℕ
sizes area = 12

abbrev exported : List ℕ → List LineKind
exported s = statement_kinds context sizes (what.Directive (line.Export s))

pub label_exported : exported (codes "start") ≡ []
label_exported = refl

pub number_exported : exported (codes "six") ≡ []
number_exported = refl

pub import_exported : exported (codes "far") ≡ WrongType ∷ []
import_exported = refl

pub register_exported : exported (codes "base") ≡ WrongType ∷ []
register_exported = refl

pub faulty_name_exported : exported (codes "faulty") ≡ WrongType ∷ []
faulty_name_exported = refl

pub nothing_exported : exported (codes "none") ≡ UnknownWord ∷ []
nothing_exported = refl

-- ---- names for registers

pub register_too_early : name_kinds (codes "base" ∷ []) names [] (register.Named (codes "base")) ≡ Forward ∷ []
register_too_early = refl

pub register_of_a_label : name_kinds (codes "base" ∷ []) names [] (register.Named (codes "start")) ≡ WrongType ∷ []
register_of_a_label = refl

pub falling_range :
    operand_kinds false ((codes "base", 9) ∷ []) (what.Arm (arm.TransferBlock Al true mode.IncrementAfter (r 0) false
    (record { items = listed.Range (register.Named (codes "base")) (r 1) ∷ [] }) false))
    ≡ BadOperand ∷ []
falling_range = refl
