-- The text of an instruction of ARM state, a line for each row of the ARM Architecture Reference Manual's
-- encodings, in the syntax of the SDT 2.50 Reference Guide, chapter on the assembler.
use Rattle.std.specs.Prelude.{ℕ, ◌+◌, ◌*◌, ◌==◌, ◌&&◌, not, Bool, true, false, if◌then◌else◌, List, [], ◌++◌, Option, Some, None, codes}
use Rattle.sdt_word.specs.Numbers.{bit, operand, registers}
use Rattle.sdt_word.specs.declared.codes.Condition.{Condition}
use Rattle.sdt_word.specs.declared.codes.ShiftKind.{ShiftKind}
use Rattle.arm_isa.specs.declared.instr.ArmInstr.{ArmInstr}
use Rattle.arm_isa.specs.declared.instr.ArmInstr.TheVariants.{DataImmediate, DataShifted, DataRegisterShifted, Multiply, MultiplyLong, Swap, BranchExchange, ReadStatus, WriteStatus, WriteStatusImmediate, TransferImmediate, TransferShifted, TransferHalf, TransferBlock, Branch, SoftwareInterrupt, Undefined}
use Rattle.arm_isa.specs.declared.instr.HalfKind.{HalfKind}
use Rattle.arm_isa.specs.declared.instr.HalfKind.TheVariants.{Half, SignedByte, SignedHalf}
use Rattle.arm_isa.specs.declared.instr.Operation.{Operation}
use Rattle.arm_isa.specs.declared.instr.Operation.TheVariants.{And, Eor, Sub, Rsb, Add, Adc, Sbc, Rsc, Tst, Teq, Cmp, Cmn, Orr, Mov, Bic, Mvn}
use Rattle.sdt_listing.specs.Parts.{mark, spoken, register, next, number, hex, address, shifted, shifted_by, plain, indexed, indexed_by, braced, named, target, data_word}

abbrev pub operation_name : Operation → List ℕ
operation_name And = codes "AND"
operation_name Eor = codes "EOR"
operation_name Sub = codes "SUB"
operation_name Rsb = codes "RSB"
operation_name Add = codes "ADD"
operation_name Adc = codes "ADC"
operation_name Sbc = codes "SBC"
operation_name Rsc = codes "RSC"
operation_name Tst = codes "TST"
operation_name Teq = codes "TEQ"
operation_name Cmp = codes "CMP"
operation_name Cmn = codes "CMN"
operation_name Orr = codes "ORR"
operation_name Mov = codes "MOV"
operation_name Bic = codes "BIC"
operation_name Mvn = codes "MVN"

-- ---- data processing

abbrev pub is_comparison : Operation → Bool
is_comparison Tst = true
is_comparison Teq = true
is_comparison Cmp = true
is_comparison Cmn = true
is_comparison _ = false

abbrev pub is_move : Operation → Bool
is_move Mov = true
is_move Mvn = true
is_move _ = false

-- the registers before the operand: a comparison has no Rd, a move no Rn
unfoldable pub sources : Operation → ℕ → ℕ → List ℕ
sources o n d =
    if is_comparison o then register n else (if is_move o then register d else register d ++ next n)

-- a comparison sets the flags in any case
abbrev pub marks_flags : Operation → Bool → Bool
marks_flags o s = not (is_comparison o) && s

unfoldable pub processing : Condition → Operation → Bool → ℕ → ℕ → List ℕ → List ℕ
processing c o s n d operand =
    spoken (operation_name o) c (mark (marks_flags o s) (codes "S")) (sources o n d ++ (codes "," ++ operand))

-- ---- multiplications

abbrev pub multiply_name : Bool → List ℕ
multiply_name a = if a then codes "MLA" else codes "MUL"

unfoldable pub multiply : Condition → Bool → Bool → ℕ → ℕ → ℕ → ℕ → List ℕ
multiply c a s d n rs m =
    spoken (multiply_name a) c (mark s (codes "S")) (register d ++ (next m ++ (next rs ++ mark a (next n))))

abbrev pub long_name : Bool → Bool → List ℕ
long_name g a = if g then (if a then codes "SMLAL" else codes "SMULL") else (if a then codes "UMLAL" else codes "UMULL")

unfoldable pub multiply_long : Condition → Bool → Bool → Bool → ℕ → ℕ → ℕ → ℕ → List ℕ
multiply_long c g a s h l rs m =
    spoken (long_name g a) c (mark s (codes "S")) (register l ++ (next h ++ (next m ++ next rs)))

unfoldable pub swap : Condition → Bool → ℕ → ℕ → ℕ → List ℕ
swap c b n d m = spoken (codes "SWP") c (mark b (codes "B")) (register d ++ (next m ++ (codes "," ++ plain n)))

-- ---- status registers

abbrev pub status_name : Bool → List ℕ
status_name p = if p then codes "SPSR" else codes "CPSR"

-- the letters of the fields that are written, from the highest bit down
unfoldable pub fields : ℕ → List ℕ
fields f =
    mark (bit f 3 == 1) (codes "f") ++ (mark (bit f 2 == 1) (codes "s") ++ (mark (bit f 1 == 1) (codes "x") ++ mark (bit f 0 == 1) (codes "c")))

unfoldable pub read_status : Condition → Bool → ℕ → List ℕ
read_status c p d = spoken (codes "MRS") c [] (register d ++ (codes "," ++ status_name p))

unfoldable pub write_status : Condition → Bool → ℕ → List ℕ → List ℕ
write_status c p f operand = spoken (codes "MSR") c [] (status_name p ++ (codes "_" ++ (fields f ++ (codes "," ++ operand))))

-- ---- transfers

abbrev pub transfer_name : Bool → List ℕ
transfer_name l = if l then codes "LDR" else codes "STR"

unfoldable pub transfer : Condition → Bool → List ℕ → ℕ → List ℕ → List ℕ
transfer c l suffix d place = spoken (transfer_name l) c suffix (register d ++ (codes "," ++ place))

-- with a mark where it is in user mode: the base is written back after the transfer in any case
abbrev pub word_suffix : Bool → Bool → Bool → List ℕ
word_suffix p b w = mark b (codes "B") ++ mark (not p && w) (codes "T")

abbrev pub half_suffix : HalfKind → List ℕ
half_suffix Half = codes "H"
half_suffix SignedByte = codes "SB"
half_suffix SignedHalf = codes "SH"

-- a register that is added or taken away
abbrev pub sign : Bool → List ℕ
sign u = if u then [] else codes "-"

unfoldable pub shifted_place : Bool → Bool → Bool → ℕ → ℕ → ShiftKind → ℕ → List ℕ
shifted_place p u w n a t m = indexed p w n (sign u ++ shifted m t a)

unfoldable pub half_place : Bool → Bool → Bool → Bool → ℕ → ℕ → ℕ → List ℕ
half_place p u e w n h k = if e then indexed_by p u w n (16 * h + k) else indexed p w n (sign u ++ register k)

abbrev pub block_mode : Bool → Bool → List ℕ
block_mode p u = if p then (if u then codes "IB" else codes "DB") else (if u then codes "IA" else codes "DA")

abbrev pub block_name : Bool → List ℕ
block_name l = if l then codes "LDM" else codes "STM"

unfoldable pub block : Condition → Bool → Bool → Bool → Bool → Bool → ℕ → ℕ → List ℕ
block c p u s w l n r =
    spoken (block_name l) c (block_mode p u) (register n ++ (mark w (codes "!") ++ (codes "," ++ (braced (named (registers 16 r)) ++ mark s (codes "^")))))

-- ---- branches

abbrev pub branch_name : Bool → List ℕ
branch_name l = if l then codes "BL" else codes "B"

-- the address ahead by two words, and the displacement in words
unfoldable pub branch : ℕ → Condition → Bool → ℕ → List ℕ
branch at c l d = spoken (branch_name l) c [] (address (target (at + 8) 4 24 d))

-- ---- the text of the instruction that the word w at an offset reads as

unfoldable pub instruction_text : ℕ → ℕ → ArmInstr → List ℕ
instruction_text at w (DataImmediate c o s n d r i) = processing c o s n d (number (operand r i))
instruction_text at w (DataShifted c o s n d a t m) = processing c o s n d (shifted m t a)
instruction_text at w (DataRegisterShifted c o s n d rs t m) = processing c o s n d (shifted_by m t rs)
instruction_text at w (Multiply c a s d n rs m) = multiply c a s d n rs m
instruction_text at w (MultiplyLong c g a s h l rs m) = multiply_long c g a s h l rs m
instruction_text at w (Swap c b n d m) = swap c b n d m
instruction_text at w (BranchExchange c m) = spoken (codes "BX") c [] (register m)
instruction_text at w (ReadStatus c p d) = read_status c p d
instruction_text at w (WriteStatus c p f m) = write_status c p f (register m)
instruction_text at w (WriteStatusImmediate c p f r i) = write_status c p f (number (operand r i))
instruction_text at w (TransferImmediate c p u b wb l n d v) = transfer c l (word_suffix p b wb) d (indexed_by p u wb n v)
instruction_text at w (TransferShifted c p u b wb l n d a t m) = transfer c l (word_suffix p b wb) d (shifted_place p u wb n a t m)
instruction_text at w (TransferHalf c p u e wb l n d h y k) = transfer c l (half_suffix y) d (half_place p u e wb n h k)
instruction_text at w (TransferBlock c p u s wb l n r) = block c p u s wb l n r
instruction_text at w (Branch c l d) = branch at c l d
instruction_text at w (SoftwareInterrupt c n) = spoken (codes "SWI") c [] (hex n)
instruction_text at w (Undefined c u) = data_word w

-- the text of a word: of the instruction that it reads as, or the word itself where no row reads it
abbrev pub word_text : ℕ → ℕ → Option ArmInstr → List ℕ
word_text at w None = data_word w
word_text at w (Some i) = instruction_text at w i
