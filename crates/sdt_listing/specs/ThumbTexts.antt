-- The text of an instruction of Thumb state, a line for each row of the ARM Architecture Reference Manual's
-- encodings, in the syntax of the SDT 2.50 Reference Guide, chapter on the assembler. The names of BL's halves
-- are this project's.
use Rattle.std.specs.Prelude.{ℕ, ◌+◌, ◌*◌, ◌==◌, Bool, true, false, if◌then◌else◌, List, [], ◌++◌, Option, Some, None, codes}
use Rattle.sdt_word.specs.Numbers.{flag, registers}
use Rattle.sdt_word.specs.declared.codes.Condition.TheVariants.{Al}
use Rattle.thumb_isa.specs.declared.instr.HighOperation.{HighOperation}
use Rattle.thumb_isa.specs.declared.instr.HighOperation.TheVariants.{Add as HighAdd, Cmp as HighCmp, Mov as HighMov, Bx}
use Rattle.thumb_isa.specs.declared.instr.ImmediateOperation.{ImmediateOperation}
use Rattle.thumb_isa.specs.declared.instr.ImmediateOperation.TheVariants.{Mov as ByteMov, Cmp as ByteCmp, Add as ByteAdd, Sub as ByteSub}
use Rattle.thumb_isa.specs.declared.instr.SignedTransfer.{SignedTransfer}
use Rattle.thumb_isa.specs.declared.instr.SignedTransfer.TheVariants.{StoreHalf, LoadSignedByte, LoadHalf, LoadSignedHalf}
use Rattle.thumb_isa.specs.declared.instr.ThumbInstr.{ThumbInstr}
use Rattle.thumb_isa.specs.declared.instr.ThumbInstr.TheVariants.{ShiftImmediate, AddSubtract, DataImmediate, DataRegister, HighRegister, LoadLiteral, TransferRegister, TransferSigned, TransferImmediate, TransferHalf, TransferStack, LoadAddress, AdjustStack, PushPop, TransferMultiple, BranchConditional, SoftwareInterrupt, Branch, BranchLink, Undefined}
use Rattle.thumb_isa.specs.declared.instr.ThumbOperation.{ThumbOperation}
use Rattle.thumb_isa.specs.declared.instr.ThumbOperation.TheVariants.{And, Eor, Lsl, Lsr, Asr, Adc, Sbc, Ror, Tst, Neg, Cmp, Cmn, Orr, Mul, Bic, Mvn}
use Rattle.thumb_isa.specs.declared.instr.ThumbShift.{ThumbShift}
use Rattle.thumb_isa.specs.declared.instr.ThumbShift.TheVariants.{Lsl as ShiftLsl, Lsr as ShiftLsr, Asr as ShiftAsr}
use Rattle.sdt_listing.specs.Parts.{mark, spoken, register, next, number, hex, address, indexed, indexed_by, braced, named, target, data_half}

-- ---- names

abbrev pub shift_name : ThumbShift → List ℕ
shift_name ShiftLsl = codes "LSL"
shift_name ShiftLsr = codes "LSR"
shift_name ShiftAsr = codes "ASR"

abbrev pub immediate_name : ImmediateOperation → List ℕ
immediate_name ByteMov = codes "MOV"
immediate_name ByteCmp = codes "CMP"
immediate_name ByteAdd = codes "ADD"
immediate_name ByteSub = codes "SUB"

abbrev pub operation_name : ThumbOperation → List ℕ
operation_name And = codes "AND"
operation_name Eor = codes "EOR"
operation_name Lsl = codes "LSL"
operation_name Lsr = codes "LSR"
operation_name Asr = codes "ASR"
operation_name Adc = codes "ADC"
operation_name Sbc = codes "SBC"
operation_name Ror = codes "ROR"
operation_name Tst = codes "TST"
operation_name Neg = codes "NEG"
operation_name Cmp = codes "CMP"
operation_name Cmn = codes "CMN"
operation_name Orr = codes "ORR"
operation_name Mul = codes "MUL"
operation_name Bic = codes "BIC"
operation_name Mvn = codes "MVN"

abbrev pub signed_name : SignedTransfer → List ℕ
signed_name StoreHalf = codes "STRH"
signed_name LoadSignedByte = codes "LDRSB"
signed_name LoadHalf = codes "LDRH"
signed_name LoadSignedHalf = codes "LDRSH"

-- a load or a store, of a word, of a byte or a word, and of a half-word
abbrev pub transfer_name : Bool → List ℕ
transfer_name l = if l then codes "LDR" else codes "STR"

abbrev pub byte_name : Bool → Bool → List ℕ
byte_name l b = transfer_name l ++ mark b (codes "B")

abbrev pub half_transfer_name : Bool → List ℕ
half_transfer_name l = transfer_name l ++ codes "H"

abbrev pub sum_name : Bool → List ℕ
sum_name subtract = if subtract then codes "SUB" else codes "ADD"

-- ---- operands

-- an operation, a space and its operands
abbrev pub said : List ℕ → List ℕ → List ℕ
said operation operands = spoken operation Al [] operands

-- an operation of a register and another operand
unfoldable pub on : List ℕ → ℕ → List ℕ → List ℕ
on operation d operand = said operation (register d ++ (codes "," ++ operand))

-- LSR and ASR by 0 stand for 32
abbrev pub amount : ThumbShift → ℕ → ℕ
amount ShiftLsl i = i
amount ShiftLsr i = if i == 0 then 32 else i
amount ShiftAsr i = if i == 0 then 32 else i

-- an address above a register by a number, which is left out where it is 0, or by a register
abbrev pub above : ℕ → ℕ → List ℕ
above n v = indexed_by true true false n v

abbrev pub above_by : ℕ → ℕ → List ℕ
above_by n o = indexed true false n (register o)

-- a register that may be a high one
abbrev pub full : Bool → ℕ → ℕ
full high n = 8 * flag high + n

abbrev pub high_name : HighOperation → List ℕ
high_name HighAdd = codes "ADD"
high_name HighCmp = codes "CMP"
high_name HighMov = codes "MOV"
high_name Bx = codes "BX"

-- BX names no Rd
unfoldable pub high_text : HighOperation → ℕ → ℕ → List ℕ
high_text HighAdd d s = on (high_name HighAdd) d (register s)
high_text HighCmp d s = on (high_name HighCmp) d (register s)
high_text HighMov d s = on (high_name HighMov) d (register s)
high_text Bx d s = said (high_name Bx) (register s)

-- words by 4 i, bytes by i
abbrev pub scaled : Bool → ℕ → ℕ
scaled b i = if b then i else 4 * i

abbrev pub stack_name : Bool → List ℕ
stack_name l = if l then codes "POP" else codes "PUSH"

-- lr is pushed, and pc popped
abbrev pub linked : Bool → ℕ
linked l = if l then 15 else 14

unfoldable pub stack_text : Bool → Bool → ℕ → List ℕ
stack_text l r k = said (stack_name l) (braced (named (registers 8 k) ++ mark r (next (linked l))))

-- a sum with a number or a register
abbrev pub addend : Bool → ℕ → List ℕ
addend e n = if e then number n else register n

abbrev pub base : Bool → ℕ
base stack = if stack then 13 else 15

abbrev pub half_name : Bool → List ℕ
half_name second = if second then codes "BL2" else codes "BL1"

abbrev pub multiple_name : Bool → List ℕ
multiple_name l = if l then codes "LDMIA" else codes "STMIA"

-- ---- the text of the instruction that the half-word h at an offset reads as

unfoldable pub instruction_text : ℕ → ℕ → ThumbInstr → List ℕ
instruction_text at h (ShiftImmediate o i s d) = on (shift_name o) d (register s ++ (codes "," ++ number (amount o i)))
instruction_text at h (AddSubtract e o n s d) = on (sum_name o) d (register s ++ (codes "," ++ addend e n))
instruction_text at h (DataImmediate o d i) = on (immediate_name o) d (number i)
instruction_text at h (DataRegister o s d) = on (operation_name o) d (register s)
instruction_text at h (HighRegister o hd hs s d) = high_text o (full hd d) (full hs s)
instruction_text at h (LoadLiteral d i) = on (transfer_name true) d (above 15 (4 * i))
instruction_text at h (TransferRegister l b o n d) = on (byte_name l b) d (above_by n o)
instruction_text at h (TransferSigned y o n d) = on (signed_name y) d (above_by n o)
instruction_text at h (TransferImmediate b l i n d) = on (byte_name l b) d (above n (scaled b i))
instruction_text at h (TransferHalf l i n d) = on (half_transfer_name l) d (above n (2 * i))
instruction_text at h (TransferStack l d i) = on (transfer_name l) d (above 13 (4 * i))
instruction_text at h (LoadAddress p d i) = on (codes "ADD") d (register (base p) ++ (codes "," ++ number (4 * i)))
instruction_text at h (AdjustStack s i) = on (sum_name s) 13 (number (4 * i))
instruction_text at h (PushPop l r k) = stack_text l r k
instruction_text at h (TransferMultiple l n k) = said (multiple_name l) (register n ++ (codes "!," ++ braced (named (registers 8 k))))
instruction_text at h (BranchConditional c i) = spoken (codes "B") c [] (address (target (at + 4) 2 8 i))
instruction_text at h (SoftwareInterrupt i) = said (codes "SWI") (hex i)
instruction_text at h (Branch i) = said (codes "B") (address (target (at + 4) 2 11 i))
instruction_text at h (BranchLink second i) = said (half_name second) (hex i)
instruction_text at h (Undefined i) = data_half h

-- the text of a half-word: of the instruction that it reads as, or the half-word itself where no row reads it
abbrev pub half_text : ℕ → ℕ → Option ThumbInstr → List ℕ
half_text at h None = data_half h
half_text at h (Some i) = instruction_text at h i
