-- The instructions that a line of Thumb state says, with its operands' values, and what is wrong with them. Most rows take
-- registers from r0 to r7; where a name for a register stands, the register chooses the row. The twin of a sum is the
-- difference of the negated number. BL is a pair of half-words; where it is left to the linker, its displacement is its
-- number less how far pc stands behind the start of the area. ARM Architecture Reference Manual, the instructions; SDT 2.50
-- Reference Guide, chapter on the assembler; ranges and kinds of faults are this project's.
use Rattle.std.specs.Prelude.{ℕ, ◌+◌, ◌-◌, ◌*◌, ◌/◌, ◌%◌, ◌^◌, ◌==◌, ◌&&◌, ◌||◌, not, nat_lt, nat_le, List, [], ◌∷◌, Bool, true, false, if◌then◌else◌, Option, Some, None, Result, Ok, Err}
use Rattle.sdt_word.specs.declared.codes.ShiftKind.TheVariants as kind
use Rattle.sdt_fault.specs.declared.kinds.LineKind.{LineKind}
use Rattle.sdt_fault.specs.declared.kinds.LineKind.TheVariants.{Syntax, BadOperand, Constant, WrongType, OutOfRange}
use Rattle.thumb_isa.specs.declared.instr.HighOperation.{HighOperation}
use Rattle.thumb_isa.specs.declared.instr.HighOperation.TheVariants as high
use Rattle.thumb_isa.specs.declared.instr.ImmediateOperation.{ImmediateOperation}
use Rattle.thumb_isa.specs.declared.instr.ImmediateOperation.TheVariants as immediate
use Rattle.thumb_isa.specs.declared.instr.ThumbInstr.{ThumbInstr}
use Rattle.thumb_isa.specs.declared.instr.ThumbInstr.TheVariants as instr
use Rattle.thumb_isa.specs.declared.instr.ThumbOperation.TheVariants as operation
use Rattle.thumb_isa.specs.declared.instr.ThumbShift.{ThumbShift}
use Rattle.thumb_isa.specs.declared.instr.ThumbShift.TheVariants as shift
use Rattle.asm_model.specs.declared.exprs.Expr.{Expr}
use Rattle.asm_model.specs.declared.operands.LiteralAddress.{LiteralAddress}
use Rattle.asm_model.specs.declared.operands.LiteralAddress.TheVariants as literal
use Rattle.asm_model.specs.declared.operands.Register.{Register}
use Rattle.asm_model.specs.declared.operands.ThumbOperand.{ThumbOperand}
use Rattle.asm_model.specs.declared.operands.ThumbOperand.TheVariants as operand
use Rattle.asm_model.specs.declared.statements.PseudoLine.{PseudoLine}
use Rattle.asm_model.specs.declared.statements.PseudoLine.TheVariants as pseudo
use Rattle.asm_model.specs.declared.thumb_lines.ThumbLine.{ThumbLine}
use Rattle.asm_model.specs.declared.thumb_lines.ThumbLine.TheVariants as thumb
use Rattle.asm_model.specs.declared.values.Value.{Value}
use Rattle.asm_model.specs.declared.values.Value.TheVariants.{Number, Place}
use Rattle.asm_model.specs.Meaning.{stands_at}
use Rattle.asm_model.specs.Readings.{and_then, both, mapped, on_both}
use Rattle.source_model.specs.declared.codes.ThumbCode.{ThumbCode}
use Rattle.source_model.specs.declared.codes.ThumbCode.TheVariants.{One, Pair}
use Rattle.source_model.specs.ArmForms.{amount_field, has_symbol, is_settled, list_bits, offset_at}
use Rattle.source_model.specs.Contexts.{Context, sees, value_of, number_in, register, own_offset}
use Rattle.source_model.specs.Immediates.{negated}

-- ---- two operands

-- registers that have no row, with a number
abbrev pub no_row : Result ℕ LineKind → Result ThumbInstr LineKind
no_row number = on_both (λ i n. i) (Err BadOperand) number

-- ---- registers

abbrev pub is_low : ℕ → Bool
is_low r = nat_lt r 8

abbrev pub low_number : ℕ → Result ℕ LineKind
low_number r = if is_low r then Ok r else Err BadOperand

abbrev pub low : Context → Register → Result ℕ LineKind
low c r = low_number (register c r)

abbrev pub low_two : Context → Register → Register → Result (ℕ × ℕ) LineKind
low_two c r s = both (low c r) (low c s)

abbrev pub low_three : Context → Register → Register → Register → Result ((ℕ × ℕ) × ℕ) LineKind
low_three c r s t = both (low_two c r s) (low c t)

-- ---- numbers

-- a number of whole units, of which there may be fewer than a limit
abbrev pub units_below : ℕ → ℕ → ℕ → Result ℕ LineKind
units_below unit limit n = if n % unit == 0 then (if nat_lt (n / unit) limit then Ok (n / unit) else Err OutOfRange) else Err BadOperand

-- the same of an immediate operand
abbrev pub immediate_below : ℕ → ℕ → ℕ → Result ℕ LineKind
immediate_below unit limit n = if n % unit == 0 then (if nat_lt (n / unit) limit then Ok (n / unit) else Err Constant) else Err Constant

abbrev pub or_other : Bool → Result ℕ LineKind → Result ℕ LineKind → Result (Bool × ℕ) LineKind
or_other subtract (Ok i) other = Ok (subtract, i)
or_other subtract (Err k) other = mapped (λ i. (not subtract, i)) other

-- a number that is added or taken away, or its negation the other way
abbrev pub summed : ℕ → ℕ → Bool → ℕ → Result (Bool × ℕ) LineKind
summed unit limit subtract n = or_other subtract (immediate_below unit limit n) (immediate_below unit limit (negated n))

-- an offset of whole units behind a base
abbrev pub offset_in : Context → ℕ → ℕ → Expr → Result ℕ LineKind
offset_in c unit limit e = and_then (number_in c e) (units_below unit limit)

-- ---- shifts, and operations of two registers

abbrev pub amount_of : ThumbShift → ℕ → Result ℕ LineKind
amount_of shift.Lsl n = amount_field kind.Lsl n
amount_of shift.Lsr n = amount_field kind.Lsr n
amount_of shift.Asr n = amount_field kind.Asr n

abbrev pub high_pair : HighOperation → ℕ → ℕ → ThumbInstr
high_pair o d s = instr.HighRegister o (not (is_low d)) (not (is_low s)) (s % 8) (d % 8)

-- of r0 to r7: a sum is one of three registers, and a move is a sum with 0
abbrev pub low_pair : HighOperation → ℕ → ℕ → ThumbInstr
low_pair high.Add d s = instr.AddSubtract false false s d d
low_pair high.Cmp d s = instr.DataRegister operation.Cmp s d
low_pair high.Mov d s = instr.AddSubtract true false 0 s d
low_pair high.Bx d s = high_pair high.Bx d s

abbrev pub pair_of : HighOperation → ℕ → ℕ → ThumbInstr
pair_of o d s = if is_low d && is_low s then low_pair o d s else high_pair o d s

-- ---- sums and operations with a number

-- an address from sp or pc
abbrev pub address_of : Bool → ℕ → ℕ → Result ThumbInstr LineKind
address_of stack d n = mapped (λ i. instr.LoadAddress stack d i) (immediate_below 4 256 n)

abbrev pub low_sum : Bool → ℕ → ℕ → ℕ → Result ThumbInstr LineKind
low_sum subtract d s n = mapped (λ t. instr.AddSubtract true t.0 t.1 s d) (summed 1 8 subtract n)

-- a sum of any register, which has a row with r0 to r7, sp or pc
abbrev pub sum_by : Bool → ℕ → ℕ → Result ℕ LineKind → Result ThumbInstr LineKind
sum_by subtract d s number =
    if is_low s then and_then (both (low_number d) number) (λ p. low_sum subtract p.0 s p.1)
    else if subtract then no_row number
    else if s == 13 then and_then (both (low_number d) number) (λ p. address_of true p.0 p.1)
    else if s == 15 then and_then (both (low_number d) number) (λ p. address_of false p.0 p.1)
    else no_row number

abbrev pub with_operand : Context → Bool → Register → Register → ThumbOperand → Result ThumbInstr LineKind
with_operand c subtract rd rs (operand.Register rn) =
    mapped (λ r. instr.AddSubtract false subtract r.1 r.0.1 r.0.0) (low_three c rd rs rn)
with_operand c subtract rd rs (operand.Number e) = sum_by subtract (register c rd) (register c rs) (number_in c e)

-- the operation that adds, or takes away
abbrev pub adding : Bool → ImmediateOperation
adding true = immediate.Sub
adding false = immediate.Add

abbrev pub low_immediate : ImmediateOperation → ℕ → ℕ → Result ThumbInstr LineKind
low_immediate immediate.Mov d n = mapped (λ i. instr.DataImmediate immediate.Mov d i) (immediate_below 1 256 n)
low_immediate immediate.Cmp d n = mapped (λ i. instr.DataImmediate immediate.Cmp d i) (immediate_below 1 256 n)
low_immediate immediate.Add d n = mapped (λ t. instr.DataImmediate (adding t.0) d t.1) (summed 1 256 false n)
low_immediate immediate.Sub d n = mapped (λ t. instr.DataImmediate (adding t.0) d t.1) (summed 1 256 true n)

abbrev pub stack_sum : Bool → ℕ → Result ThumbInstr LineKind
stack_sum subtract n = mapped (λ t. instr.AdjustStack t.0 t.1) (summed 4 128 subtract n)

-- sp has rows of its own for ADD and SUB
abbrev pub stack_immediate : ImmediateOperation → Result ℕ LineKind → Result ThumbInstr LineKind
stack_immediate immediate.Add number = and_then number (stack_sum false)
stack_immediate immediate.Sub number = and_then number (stack_sum true)
stack_immediate _ number = no_row number

abbrev pub immediate_by : ImmediateOperation → ℕ → Result ℕ LineKind → Result ThumbInstr LineKind
immediate_by o d number =
    if is_low d then and_then number (low_immediate o d) else if d == 13 then stack_immediate o number else no_row number

-- ---- transfers

abbrev pub transfer_unit : Bool → ℕ
transfer_unit byte = if byte then 1 else 4

abbrev pub low_transfer : Bool → Bool → ℕ → ℕ → ℕ → Result ThumbInstr LineKind
low_transfer load byte d n v = mapped (λ i. instr.TransferImmediate byte load i n d) (units_below (transfer_unit byte) 32 v)

abbrev pub stack_transfer : Bool → ℕ → ℕ → Result ThumbInstr LineKind
stack_transfer load d v = mapped (λ i. instr.TransferStack load d i) (units_below 4 256 v)

abbrev pub literal_transfer : ℕ → ℕ → Result ThumbInstr LineKind
literal_transfer d v = mapped (λ i. instr.LoadLiteral d i) (units_below 4 256 v)

-- a transfer by a base and a number: words also by sp, and loads of them by pc
abbrev pub transfer_by : Bool → Bool → ℕ → ℕ → Result ℕ LineKind → Result ThumbInstr LineKind
transfer_by load byte d n number =
    if is_low n then and_then (both (low_number d) number) (λ p. low_transfer load byte p.0 n p.1)
    else if byte then no_row number
    else if n == 13 then and_then (both (low_number d) number) (λ p. stack_transfer load p.0 p.1)
    else if load && n == 15 then and_then (both (low_number d) number) (λ p. literal_transfer p.0 p.1)
    else no_row number

-- ---- pc

-- pc as the statement's instruction reads it, with its low bits cleared, and how far an offset lies behind it, modulo 2^32
abbrev pub word_pc : Context → ℕ
word_pc c = (c.line.offset + 4) / 4 * 4

abbrev pub from_word_pc : Context → ℕ → ℕ
from_word_pc c offset = (offset + (2 ^ 32 - word_pc c)) % 2 ^ 32

-- the words behind it up to a label of the statement's area
abbrev pub words_to : Context → Result ℕ LineKind → Result ℕ LineKind
words_to c at = and_then at (λ a. units_below 4 256 (from_word_pc c a))

abbrev pub literal_at : Context → LiteralAddress → Result ℕ LineKind
literal_at c (literal.Offset e) = offset_in c 4 256 e
literal_at c (literal.Label e) = words_to c (own_offset c (value_of c e))

-- ---- lists: r0 to r7, and one register more where there is a bit for it

abbrev pub listed : ℕ → ℕ → Result (Bool × ℕ) LineKind
listed more bits =
    if bits / 2 ^ 8 == 0 then Ok (false, bits) else if bits / 2 ^ 8 == more then Ok (true, bits % 2 ^ 8) else Err BadOperand

-- lr of PUSH, pc of POP
abbrev pub link_bit : Bool → ℕ
link_bit load = if load then 2 ^ 7 else 2 ^ 6

abbrev pub low_list : ℕ → Result ℕ LineKind
low_list bits = if bits / 2 ^ 8 == 0 then Ok bits else Err BadOperand

-- ---- branches

abbrev pub behind_pc : Context → ℕ → ℕ
behind_pc c offset = (offset + (2 ^ 32 - (c.line.offset + 4))) % 2 ^ 32

-- a displacement modulo 2^32 in half-words, as a field below a limit, a power of 2
abbrev pub half_words : ℕ → ℕ → Result ℕ LineKind
half_words limit d =
    if d % 2 == 0 then (if nat_lt d limit || nat_le (2 ^ 32 - limit) d then Ok (d / 2 % limit) else Err OutOfRange)
    else Err BadOperand

-- the displacement to a symbol plus a number; a symbol that is left to the linker counts as 0
abbrev pub thumb_from : Context → List ℕ → ℕ → ℕ
thumb_from c [] n = behind_pc c n
thumb_from c (x ∷ xs) n = behind_pc c (if is_settled c (x ∷ xs) then offset_at (stands_at (sees c) (x ∷ xs)) + n else n)

abbrev pub is_settled_place : Context → List ℕ → Bool
is_settled_place c [] = true
is_settled_place c (x ∷ xs) = is_settled c (x ∷ xs)

-- B and B with a condition are settled here; BL may be left to the linker, for which it needs a symbol
abbrev pub can_branch : Bool → Context → List ℕ → Bool
can_branch link c s = if link then has_symbol c s else is_settled_place c s

abbrev pub thumb_displacement : Bool → Context → Result Value LineKind → Result ℕ LineKind
thumb_displacement link c (Ok (Place s n)) = if can_branch link c s then Ok (thumb_from c s n) else Err BadOperand
thumb_displacement link c (Ok (Number n)) = Err BadOperand
thumb_displacement link c (Ok _) = Err WrongType
thumb_displacement link c (Err k) = Err k

abbrev pub branch_by : Context → ℕ → Expr → Result ℕ LineKind
branch_by c limit e = and_then (thumb_displacement false c (value_of c e)) (half_words limit)

-- the fields of both halves, of 11 bits each
abbrev pub pair_fields : ℕ → ThumbCode
pair_fields f = Pair (f / 2 ^ 11) (f % 2 ^ 11)

-- ---- all lines

abbrev pub one : Result ThumbInstr LineKind → Result ThumbCode LineKind
one i = mapped (λ x. One x) i

abbrev pub thumb_instruction : Context → ThumbLine → Result ThumbCode LineKind
thumb_instruction c (thumb.ShiftImmediate by rd rs e) =
    one (mapped (λ p. instr.ShiftImmediate by p.1 p.0.1 p.0.0) (both (low_two c rd rs) (and_then (number_in c e) (amount_of by))))
thumb_instruction c (thumb.AddSubtract subtract rd rs o) = one (with_operand c subtract rd rs o)
thumb_instruction c (thumb.DataImmediate o rd e) = one (immediate_by o (register c rd) (number_in c e))
thumb_instruction c (thumb.DataRegister o rd rs) = one (mapped (λ r. instr.DataRegister o r.1 r.0) (low_two c rd rs))
thumb_instruction c (thumb.HighRegister o rd rs) = Ok (One (pair_of o (register c rd) (register c rs)))
thumb_instruction c (thumb.LoadLiteral rd a) = one (mapped (λ p. instr.LoadLiteral p.0 p.1) (both (low c rd) (literal_at c a)))
thumb_instruction c (thumb.TransferRegister load byte rd rn ro) =
    one (mapped (λ r. instr.TransferRegister load byte r.1 r.0.1 r.0.0) (low_three c rd rn ro))
thumb_instruction c (thumb.TransferSigned k rd rn ro) =
    one (mapped (λ r. instr.TransferSigned k r.1 r.0.1 r.0.0) (low_three c rd rn ro))
thumb_instruction c (thumb.TransferImmediate load byte rd rn e) =
    one (transfer_by load byte (register c rd) (register c rn) (number_in c e))
thumb_instruction c (thumb.TransferHalf load rd rn e) =
    one (mapped (λ p. instr.TransferHalf load p.1 p.0.1 p.0.0) (both (low_two c rd rn) (offset_in c 2 32 e)))
thumb_instruction c (thumb.TransferStack load rd e) =
    one (mapped (λ p. instr.TransferStack load p.0 p.1) (both (low c rd) (offset_in c 4 256 e)))
thumb_instruction c (thumb.LoadAddress stack rd e) =
    one (mapped (λ p. instr.LoadAddress stack p.0 p.1) (both (low c rd) (and_then (number_in c e) (immediate_below 4 256))))
thumb_instruction c (thumb.AdjustStack subtract e) = one (and_then (number_in c e) (stack_sum subtract))
thumb_instruction c (thumb.PushPop load l) =
    one (mapped (λ p. instr.PushPop load p.0 p.1) (listed (link_bit load) (list_bits c l.items 0 16)))
thumb_instruction c (thumb.TransferMultiple load rn l) =
    one (mapped (λ p. instr.TransferMultiple load p.0 p.1) (both (low c rn) (low_list (list_bits c l.items 0 16))))
thumb_instruction c (thumb.BranchConditional condition e) = one (mapped (λ f. instr.BranchConditional condition f) (branch_by c (2 ^ 8) e))
thumb_instruction c (thumb.SoftwareInterrupt e) = one (mapped (λ i. instr.SoftwareInterrupt i) (offset_in c 1 256 e))
thumb_instruction c (thumb.Branch e) = one (mapped (λ f. instr.Branch f) (branch_by c (2 ^ 11) e))
thumb_instruction c (thumb.BranchLink e) =
    mapped pair_fields (and_then (thumb_displacement true c (value_of c e)) (half_words (2 ^ 22)))

-- ---- pseudo-instructions in Thumb state: a literal always has a word

abbrev pub word_offset : Option ℕ → Result ℕ LineKind
word_offset None = Err OutOfRange
word_offset (Some word) = Ok word

abbrev pub loaded : Context → Option ℕ → Register → Result ThumbInstr LineKind
loaded c word rd = mapped (λ p. instr.LoadLiteral p.0 p.1) (both (low c rd) (words_to c (word_offset word)))

abbrev pub addressed : Context → Register → Expr → Result ThumbInstr LineKind
addressed c rd e = mapped (λ p. instr.LoadAddress false p.0 p.1) (both (low c rd) (words_to c (own_offset c (value_of c e))))

abbrev pub thumb_pseudo : Context → Option ℕ → PseudoLine → Result ThumbInstr LineKind
thumb_pseudo c word (pseudo.LoadConstant condition rd e) = loaded c word rd
thumb_pseudo c word (pseudo.Address condition rd e) = addressed c rd e
thumb_pseudo c word (pseudo.LongAddress condition rd e) = Err Syntax
thumb_pseudo c word pseudo.NoOperation = Ok (instr.HighRegister high.Mov true true 0 0)
