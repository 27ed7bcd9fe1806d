-- What the operands of moves, comparisons, sums, shifts and logical operations say: the row that the registers choose. ARM
-- SDT 2.50 Reference Guide, chapter on the assembler. This project's: a move of one of r0 to r7 to another is the sum with
-- 0 and sets the flags, and a sum of two such registers is that of three. A name that RN gives may stand for one of r8 to
-- r15, so a move, comparison or sum of two registers with a name says the row of high registers; the instruction is chosen
-- by the registers' numbers, once they are known.
use Rattle.std.specs.Prelude.{◌≡◌, ℕ, List, ◌||◌, Bool, true, false, if◌then◌else◌, Option, Some, None, Result, Ok, Err}
use Rattle.sdt_fault.specs.declared.kinds.LineKind.{LineKind}
use Rattle.sdt_fault.specs.declared.kinds.LineKind.TheVariants.{Syntax}
use Rattle.thumb_isa.specs.declared.instr.ImmediateOperation.{ImmediateOperation}
use Rattle.thumb_isa.specs.declared.instr.ImmediateOperation.TheVariants as immediate
use Rattle.thumb_isa.specs.declared.instr.HighOperation.TheVariants as high
use Rattle.thumb_isa.specs.declared.instr.ThumbOperation.{ThumbOperation}
use Rattle.thumb_isa.specs.declared.instr.ThumbOperation.TheVariants as operation
use Rattle.thumb_isa.specs.declared.instr.ThumbShift.{ThumbShift}
use Rattle.thumb_isa.specs.declared.instr.ThumbShift.TheVariants as shift
use Rattle.asm_model.specs.declared.tokens.Token.{Token}
use Rattle.asm_model.specs.declared.operands.Register.{Register}
use Rattle.asm_model.specs.declared.operands.ThumbOperand.TheVariants as operand
use Rattle.asm_model.specs.declared.statements.What.{What}
use Rattle.asm_model.specs.declared.statements.What.TheVariants as what
use Rattle.asm_model.specs.declared.thumb_lines.ThumbLine.TheVariants as line
use Rattle.asm_model.specs.Readings.{and_then, mapped}
use Rattle.asm_arm.specs.LineForms.{hash}
use Rattle.asm_arm.specs.Operands.{Cuts, two, three, register, two_registers, three_registers, without_first}
use Rattle.asm_thumb.specs.declared.frames.Frame.{Frame}
use Rattle.asm_thumb.specs.declared.frames.Frame.TheVariants as frame
use Rattle.asm_thumb.specs.Frames.{ReadsWith, with_zero}
use Rattle.asm_thumb.specs.Operands.{is_sp, is_pc, may_be_high}

-- ADD and SUB: whether it takes away
abbrev pub sum_of : ImmediateOperation → Option Bool
sum_of immediate.Add = Some false
sum_of immediate.Sub = Some true
sum_of _ = None

-- an operation of sp and a number, of which ADD and SUB have a row of their own
abbrev pub stack_frame : ImmediateOperation → Register → Option Bool → Frame
stack_frame o rd None = frame.Immediate o rd
stack_frame o rd (Some subtract) = frame.AdjustStack subtract

-- an operation of a register and a number
abbrev pub immediate_frame : ImmediateOperation → Register → Frame
immediate_frame o rd = if is_sp rd then stack_frame o rd (sum_of o) else frame.Immediate o rd

-- an operation of two registers of which one is r8 to r15, or a name
abbrev pub high_line : ImmediateOperation → Register → Register → Result What LineKind
high_line immediate.Add rd rs = Ok (what.Thumb (line.HighRegister high.Add rd rs))
high_line immediate.Cmp rd rs = Ok (what.Thumb (line.HighRegister high.Cmp rd rs))
high_line immediate.Mov rd rs = Ok (what.Thumb (line.HighRegister high.Mov rd rs))
high_line immediate.Sub rd rs = Err Syntax

-- the same of r0 to r7
abbrev pub low_line : ImmediateOperation → Register → Register → Result What LineKind
low_line immediate.Add rd rs = Ok (what.Thumb (line.AddSubtract false rd rd (operand.Register rs)))
low_line immediate.Cmp rd rs = Ok (what.Thumb (line.DataRegister operation.Cmp rd rs))
low_line immediate.Mov rd rs = with_zero (Ok (frame.Sum false rd rs))
low_line immediate.Sub rd rs = Err Syntax

abbrev pub pair_line : ImmediateOperation → Register → Register → Result What LineKind
pair_line o rd rs = if may_be_high rd || may_be_high rs then high_line o rd rs else low_line o rd rs

-- Rd and a number, or two registers
abbrev pub ReadsPair : List ℕ → ImmediateOperation → List Token → List Token → Option (List Token) → Result What LineKind → Type 0
ReadsPair text o d x (Some e) r = ReadsWith text (mapped (immediate_frame o) (register text d)) e r
ReadsPair text o d x None r = r ≡ and_then (two_registers text d x) (λ p. pair_line o p.0 p.1)

-- a sum of a register and a number; ADD of sp or pc is an address
abbrev pub sum_frame : Bool → Register → Register → Frame
sum_frame true rd rs = frame.Sum true rd rs
sum_frame false rd rs =
    if is_sp rs then frame.LoadAddress true rd
    else if is_pc rs then frame.LoadAddress false rd
    else frame.Sum false rd rs

-- Rd, Rs, and a number or a register
abbrev pub ReadsSum : List ℕ → Option Bool → List Token → List Token → List Token → Option (List Token) → Result What LineKind → Type 0
ReadsSum text None d s x o r = r ≡ Err Syntax
ReadsSum text (Some subtract) d s x (Some e) r =
    ReadsWith text (mapped (λ p. sum_frame subtract p.0 p.1) (two_registers text d s)) e r
ReadsSum text (Some subtract) d s x None r =
    r ≡ mapped (λ p. what.Thumb (line.AddSubtract subtract p.0.0 p.0.1 (operand.Register p.1))) (three_registers text d s x)

-- MOV, CMP, ADD and SUB
abbrev pub ReadsImmediate : List ℕ → ImmediateOperation → Cuts → Result What LineKind → Type 0
ReadsImmediate text o (two d x) r = ReadsPair text o d x (without_first text hash x) r
ReadsImmediate text o (three d s x) r = ReadsSum text (sum_of o) d s x (without_first text hash x) r
ReadsImmediate text o _ r = r ≡ Err Syntax

-- Rd and Rs
abbrev pub registers_line : List ℕ → ThumbOperation → List Token → List Token → Result What LineKind
registers_line text o d s = mapped (λ p. what.Thumb (line.DataRegister o p.0 p.1)) (two_registers text d s)

abbrev pub registers : List ℕ → ThumbOperation → Cuts → Result What LineKind
registers text o (two d s) = registers_line text o d s
registers text o _ = Err Syntax

-- the shift by a register
abbrev pub shift_operation : ThumbShift → ThumbOperation
shift_operation shift.Lsl = operation.Lsl
shift_operation shift.Lsr = operation.Lsr
shift_operation shift.Asr = operation.Asr

abbrev pub shift_frame : ThumbShift → Result (Register × Register) LineKind → Result Frame LineKind
shift_frame k p = mapped (λ x. frame.Shift k x.0 x.1) p

abbrev pub ReadsShiftBy : List ℕ → ThumbShift → List Token → List Token → Option (List Token) → Result What LineKind → Type 0
ReadsShiftBy text k d s None r = r ≡ Err Syntax
ReadsShiftBy text k d s (Some e) r = ReadsWith text (shift_frame k (two_registers text d s)) e r

-- Rd and Rs, or Rd, Rs and a number
abbrev pub ReadsShift : List ℕ → ThumbShift → Cuts → Result What LineKind → Type 0
ReadsShift text k (two d s) r = r ≡ registers_line text (shift_operation k) d s
ReadsShift text k (three d s x) r = ReadsShiftBy text k d s (without_first text hash x) r
ReadsShift text k _ r = r ≡ Err Syntax
