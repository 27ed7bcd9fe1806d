-- The instruction that a word or a half-word reads as, as a function: the bits of the word make one instruction of
-- each row, and the first of them that the word reads as is the instruction. That this is what the tables of
-- `arm_isa` and `thumb_isa` say is the contract of `readings_law`.
use Rattle.std.specs.Prelude.{ℕ, ◌/◌, ◌==◌, ◌&&◌, ◌||◌, not, nat_lt, ◌^◌, Bool, true, false, List, [], ◌∷◌, map, slice_index, slice_index_or, Option, Some, None}
use Rattle.std.specs.List.{find}
use Rattle.sdt_word.specs.Codes.{condition_code}
use Rattle.sdt_word.specs.Numbers.{bit, bits, flag}
use Rattle.sdt_word.specs.Rows.{Part, Digit, Field, Blank, width_of, word_of}
use Rattle.sdt_word.specs.declared.codes.Condition.{Condition}
use Rattle.sdt_word.specs.declared.codes.Condition.TheVariants.{Eq, Ne, Cs, Cc, Mi, Pl, Vs, Vc, Hi, Ls, Ge, Lt, Gt, Le, Al}
use Rattle.sdt_word.specs.declared.codes.ShiftKind.{ShiftKind}
use Rattle.sdt_word.specs.declared.codes.ShiftKind.TheVariants as shift
use Rattle.arm_isa.specs.ArmRows as arm
use Rattle.arm_isa.specs.Codes.{half_code, operation_code}
use Rattle.arm_isa.specs.declared.instr.ArmInstr.{ArmInstr}
use Rattle.arm_isa.specs.declared.instr.ArmInstr.TheVariants as ai
use Rattle.arm_isa.specs.declared.instr.HalfKind.{HalfKind}
use Rattle.arm_isa.specs.declared.instr.HalfKind.TheVariants.{Half, SignedByte, SignedHalf}
use Rattle.arm_isa.specs.declared.instr.Operation.{Operation}
use Rattle.arm_isa.specs.declared.instr.Operation.TheVariants as op
use Rattle.thumb_isa.specs.ThumbRows as thumb
use Rattle.thumb_isa.specs.Codes.{high_code}
use Rattle.thumb_isa.specs.declared.instr.HighOperation.{HighOperation}
use Rattle.thumb_isa.specs.declared.instr.HighOperation.TheVariants as high
use Rattle.thumb_isa.specs.declared.instr.ImmediateOperation.{ImmediateOperation}
use Rattle.thumb_isa.specs.declared.instr.ImmediateOperation.TheVariants as imm
use Rattle.thumb_isa.specs.declared.instr.SignedTransfer.{SignedTransfer}
use Rattle.thumb_isa.specs.declared.instr.SignedTransfer.TheVariants.{StoreHalf, LoadSignedByte, LoadHalf, LoadSignedHalf}
use Rattle.thumb_isa.specs.declared.instr.ThumbInstr.{ThumbInstr}
use Rattle.thumb_isa.specs.declared.instr.ThumbInstr.TheVariants as ti
use Rattle.thumb_isa.specs.declared.instr.ThumbOperation.{ThumbOperation}
use Rattle.thumb_isa.specs.declared.instr.ThumbOperation.TheVariants as top
use Rattle.thumb_isa.specs.declared.instr.ThumbShift.{ThumbShift}
use Rattle.thumb_isa.specs.declared.instr.ThumbShift.TheVariants as tsh

-- ---- rows

-- the numbers of a row's letters in a word
abbrev pub fields_in : List Part → ℕ → List ℕ
fields_in [] v = []
fields_in (Digit d ∷ row) v = fields_in row v
fields_in (Field letter n ∷ row) v = bits v (width_of row) n ∷ fields_in row v
fields_in (Blank ∷ row) v = fields_in row v

-- there is a number for each field, and it fits
abbrev pub fits_row : List Part → List ℕ → Bool
fits_row [] [] = true
fits_row [] (x ∷ fields) = false
fits_row (Digit d ∷ row) fields = fits_row row fields
fits_row (Field letter n ∷ row) [] = false
fits_row (Field letter n ∷ row) (x ∷ fields) = nat_lt x (2 ^ n) && fits_row row fields
fits_row (Blank ∷ row) fields = fits_row row fields

abbrev pub nth : List ℕ → ℕ → ℕ
nth xs k = slice_index xs k

-- ---- conditions, operations and kinds by their numbers

unfoldable pub condition_at : ℕ → Condition
condition_at k = slice_index_or (Eq ∷ Ne ∷ Cs ∷ Cc ∷ Mi ∷ Pl ∷ Vs ∷ Vc ∷ Hi ∷ Ls ∷ Ge ∷ Lt ∷ Gt ∷ Le ∷ []) k Al

unfoldable pub shift_at : ℕ → ShiftKind
shift_at k = slice_index_or (shift.Lsl ∷ shift.Lsr ∷ shift.Asr ∷ []) k shift.Ror

unfoldable pub flag_at : ℕ → Bool
flag_at k = k == 1

unfoldable pub operation_at : ℕ → Operation
operation_at k = slice_index_or (op.And ∷ op.Eor ∷ op.Sub ∷ op.Rsb ∷ op.Add ∷ op.Adc ∷ op.Sbc ∷ op.Rsc ∷ op.Tst ∷ op.Teq ∷ op.Cmp ∷ op.Cmn ∷ op.Orr ∷ op.Mov ∷ op.Bic ∷ []) k op.Mvn

unfoldable pub half_at : ℕ → HalfKind
half_at k = slice_index_or (Half ∷ Half ∷ SignedByte ∷ []) k SignedHalf

unfoldable pub thumb_shift_at : ℕ → ThumbShift
thumb_shift_at k = slice_index_or (tsh.Lsl ∷ tsh.Lsr ∷ []) k tsh.Asr

unfoldable pub immediate_at : ℕ → ImmediateOperation
immediate_at k = slice_index_or (imm.Mov ∷ imm.Cmp ∷ imm.Add ∷ []) k imm.Sub

unfoldable pub thumb_operation_at : ℕ → ThumbOperation
thumb_operation_at k = slice_index_or (top.And ∷ top.Eor ∷ top.Lsl ∷ top.Lsr ∷ top.Asr ∷ top.Adc ∷ top.Sbc ∷ top.Ror ∷ top.Tst ∷ top.Neg ∷ top.Cmp ∷ top.Cmn ∷ top.Orr ∷ top.Mul ∷ top.Bic ∷ []) k top.Mvn

unfoldable pub high_at : ℕ → HighOperation
high_at k = slice_index_or (high.Add ∷ high.Cmp ∷ high.Mov ∷ []) k high.Bx

unfoldable pub signed_at : ℕ → SignedTransfer
signed_at k = slice_index_or (StoreHalf ∷ LoadSignedByte ∷ LoadHalf ∷ []) k LoadSignedHalf

-- ---- ARM state

-- an instruction of each row
abbrev pub arm_rows : List ArmInstr
arm_rows =
    ai.DataImmediate Eq op.And false 0 0 0 0
    ∷ ai.DataShifted Eq op.And false 0 0 0 shift.Lsl 0
    ∷ ai.DataRegisterShifted Eq op.And false 0 0 0 shift.Lsl 0
    ∷ ai.Multiply Eq false false 0 0 0 0
    ∷ ai.MultiplyLong Eq false false false 0 0 0 0
    ∷ ai.Swap Eq false 0 0 0
    ∷ ai.BranchExchange Eq 0
    ∷ ai.ReadStatus Eq false 0
    ∷ ai.WriteStatus Eq false 0 0
    ∷ ai.WriteStatusImmediate Eq false 0 0 0
    ∷ ai.TransferImmediate Eq false false false false false 0 0 0
    ∷ ai.TransferShifted Eq false false false false false 0 0 0 shift.Lsl 0
    ∷ ai.TransferHalf Eq false false false false false 0 0 0 Half 0
    ∷ ai.TransferBlock Eq false false false false false 0 0
    ∷ ai.Branch Eq false 0
    ∷ ai.SoftwareInterrupt Eq 0
    ∷ ai.Undefined Eq 0
    ∷ []

-- the instruction of the same row with these numbers
unfoldable pub arm_with : ArmInstr → List ℕ → ArmInstr
arm_with (ai.DataImmediate _ _ _ _ _ _ _) xs = ai.DataImmediate (condition_at (nth xs 0)) (operation_at (nth xs 1)) (flag_at (nth xs 2)) (nth xs 3) (nth xs 4) (nth xs 5) (nth xs 6)
arm_with (ai.DataShifted _ _ _ _ _ _ _ _) xs = ai.DataShifted (condition_at (nth xs 0)) (operation_at (nth xs 1)) (flag_at (nth xs 2)) (nth xs 3) (nth xs 4) (nth xs 5) (shift_at (nth xs 6)) (nth xs 7)
arm_with (ai.DataRegisterShifted _ _ _ _ _ _ _ _) xs = ai.DataRegisterShifted (condition_at (nth xs 0)) (operation_at (nth xs 1)) (flag_at (nth xs 2)) (nth xs 3) (nth xs 4) (nth xs 5) (shift_at (nth xs 6)) (nth xs 7)
arm_with (ai.Multiply _ _ _ _ _ _ _) xs = ai.Multiply (condition_at (nth xs 0)) (flag_at (nth xs 1)) (flag_at (nth xs 2)) (nth xs 3) (nth xs 4) (nth xs 5) (nth xs 6)
arm_with (ai.MultiplyLong _ _ _ _ _ _ _ _) xs = ai.MultiplyLong (condition_at (nth xs 0)) (flag_at (nth xs 1)) (flag_at (nth xs 2)) (flag_at (nth xs 3)) (nth xs 4) (nth xs 5) (nth xs 6) (nth xs 7)
arm_with (ai.Swap _ _ _ _ _) xs = ai.Swap (condition_at (nth xs 0)) (flag_at (nth xs 1)) (nth xs 2) (nth xs 3) (nth xs 4)
arm_with (ai.BranchExchange _ _) xs = ai.BranchExchange (condition_at (nth xs 0)) (nth xs 1)
arm_with (ai.ReadStatus _ _ _) xs = ai.ReadStatus (condition_at (nth xs 0)) (flag_at (nth xs 1)) (nth xs 2)
arm_with (ai.WriteStatus _ _ _ _) xs = ai.WriteStatus (condition_at (nth xs 0)) (flag_at (nth xs 1)) (nth xs 2) (nth xs 3)
arm_with (ai.WriteStatusImmediate _ _ _ _ _) xs = ai.WriteStatusImmediate (condition_at (nth xs 0)) (flag_at (nth xs 1)) (nth xs 2) (nth xs 3) (nth xs 4)
arm_with (ai.TransferImmediate _ _ _ _ _ _ _ _ _) xs = ai.TransferImmediate (condition_at (nth xs 0)) (flag_at (nth xs 1)) (flag_at (nth xs 2)) (flag_at (nth xs 3)) (flag_at (nth xs 4)) (flag_at (nth xs 5)) (nth xs 6) (nth xs 7) (nth xs 8)
arm_with (ai.TransferShifted _ _ _ _ _ _ _ _ _ _ _) xs = ai.TransferShifted (condition_at (nth xs 0)) (flag_at (nth xs 1)) (flag_at (nth xs 2)) (flag_at (nth xs 3)) (flag_at (nth xs 4)) (flag_at (nth xs 5)) (nth xs 6) (nth xs 7) (nth xs 8) (shift_at (nth xs 9)) (nth xs 10)
arm_with (ai.TransferHalf _ _ _ _ _ _ _ _ _ _ _) xs = ai.TransferHalf (condition_at (nth xs 0)) (flag_at (nth xs 1)) (flag_at (nth xs 2)) (flag_at (nth xs 3)) (flag_at (nth xs 4)) (flag_at (nth xs 5)) (nth xs 6) (nth xs 7) (nth xs 8) (half_at (nth xs 9)) (nth xs 10)
arm_with (ai.TransferBlock _ _ _ _ _ _ _ _) xs = ai.TransferBlock (condition_at (nth xs 0)) (flag_at (nth xs 1)) (flag_at (nth xs 2)) (flag_at (nth xs 3)) (flag_at (nth xs 4)) (flag_at (nth xs 5)) (nth xs 6) (nth xs 7)
arm_with (ai.Branch _ _ _) xs = ai.Branch (condition_at (nth xs 0)) (flag_at (nth xs 1)) (nth xs 2)
arm_with (ai.SoftwareInterrupt _ _) xs = ai.SoftwareInterrupt (condition_at (nth xs 0)) (nth xs 1)
arm_with (ai.Undefined _ _) xs = ai.Undefined (condition_at (nth xs 0)) (nth xs 1)

-- the instruction that a word's bits make in the row of another
abbrev pub arm_as : ℕ → ArmInstr → ArmInstr
arm_as v i = arm_with i (fields_in (arm.arm_row i) v)

-- whether an instruction's fields keep its row's conditions
abbrev pub fits_operation : ℕ → ℕ → ℕ → ℕ → Bool
fits_operation o s n d =
    (not (o / 4 == 2) || (s == 1 && d == 0)) && ((not (o == 13) || n == 0) && (not (o == 15) || n == 0))

abbrev pub fits_half : ℕ → ℕ → ℕ → ℕ → ℕ → ℕ → Bool
fits_half p e w l h y =
    not (y == 0) && ((not (l == 0) || y == 1) && ((not (p == 0) || w == 0) && (not (e == 0) || h == 0)))

abbrev pub is_undefined : ℕ → Bool
is_undefined u = (bits u 25 3 == 3 && bit u 4 == 1) || (bits u 25 3 == 6 || bits u 24 4 == 14)

abbrev pub arm_fits : ArmInstr → Bool
arm_fits (ai.DataImmediate c o s n d r i) = fits_operation (operation_code o) (flag s) n d
arm_fits (ai.DataShifted c o s n d a t m) = fits_operation (operation_code o) (flag s) n d
arm_fits (ai.DataRegisterShifted c o s n d rs t m) = fits_operation (operation_code o) (flag s) n d
arm_fits (ai.Multiply c a s d n rs m) = not (flag a == 0) || n == 0
arm_fits (ai.TransferHalf c p u e w l n d h y k) = fits_half (flag p) (flag e) (flag w) (flag l) h (half_code y)
arm_fits (ai.Undefined c u) = is_undefined u
arm_fits _ = true

-- whether a word reads as an instruction
unfoldable pub arm_reads : ℕ → ArmInstr → Bool
arm_reads v i =
    (v == word_of (arm.arm_row i) (arm.arm_fields i))
    && (fits_row (arm.arm_row i) (arm.arm_fields i) && (arm_fits i && not (bits v 28 4 == 15)))

-- the instruction that a word reads as
unfoldable pub arm_of : ℕ → Option ArmInstr
arm_of v = find (arm_reads v) (map (arm_as v) arm_rows)

-- ---- Thumb state

-- an instruction of each row
abbrev pub thumb_rows : List ThumbInstr
thumb_rows =
    ti.ShiftImmediate tsh.Lsl 0 0 0
    ∷ ti.AddSubtract false false 0 0 0
    ∷ ti.DataImmediate imm.Mov 0 0
    ∷ ti.DataRegister top.And 0 0
    ∷ ti.HighRegister high.Add false false 0 0
    ∷ ti.LoadLiteral 0 0
    ∷ ti.TransferRegister false false 0 0 0
    ∷ ti.TransferSigned StoreHalf 0 0 0
    ∷ ti.TransferImmediate false false 0 0 0
    ∷ ti.TransferHalf false 0 0 0
    ∷ ti.TransferStack false 0 0
    ∷ ti.LoadAddress false 0 0
    ∷ ti.AdjustStack false 0
    ∷ ti.PushPop false false 0
    ∷ ti.TransferMultiple false 0 0
    ∷ ti.BranchConditional Eq 0
    ∷ ti.SoftwareInterrupt 0
    ∷ ti.Branch 0
    ∷ ti.BranchLink false 0
    ∷ ti.Undefined 0
    ∷ []

-- the instruction of the same row with these numbers
unfoldable pub thumb_with : ThumbInstr → List ℕ → ThumbInstr
thumb_with (ti.ShiftImmediate _ _ _ _) xs = ti.ShiftImmediate (thumb_shift_at (nth xs 0)) (nth xs 1) (nth xs 2) (nth xs 3)
thumb_with (ti.AddSubtract _ _ _ _ _) xs = ti.AddSubtract (flag_at (nth xs 0)) (flag_at (nth xs 1)) (nth xs 2) (nth xs 3) (nth xs 4)
thumb_with (ti.DataImmediate _ _ _) xs = ti.DataImmediate (immediate_at (nth xs 0)) (nth xs 1) (nth xs 2)
thumb_with (ti.DataRegister _ _ _) xs = ti.DataRegister (thumb_operation_at (nth xs 0)) (nth xs 1) (nth xs 2)
thumb_with (ti.HighRegister _ _ _ _ _) xs = ti.HighRegister (high_at (nth xs 0)) (flag_at (nth xs 1)) (flag_at (nth xs 2)) (nth xs 3) (nth xs 4)
thumb_with (ti.LoadLiteral _ _) xs = ti.LoadLiteral (nth xs 0) (nth xs 1)
thumb_with (ti.TransferRegister _ _ _ _ _) xs = ti.TransferRegister (flag_at (nth xs 0)) (flag_at (nth xs 1)) (nth xs 2) (nth xs 3) (nth xs 4)
thumb_with (ti.TransferSigned _ _ _ _) xs = ti.TransferSigned (signed_at (nth xs 0)) (nth xs 1) (nth xs 2) (nth xs 3)
thumb_with (ti.TransferImmediate _ _ _ _ _) xs = ti.TransferImmediate (flag_at (nth xs 0)) (flag_at (nth xs 1)) (nth xs 2) (nth xs 3) (nth xs 4)
thumb_with (ti.TransferHalf _ _ _ _) xs = ti.TransferHalf (flag_at (nth xs 0)) (nth xs 1) (nth xs 2) (nth xs 3)
thumb_with (ti.TransferStack _ _ _) xs = ti.TransferStack (flag_at (nth xs 0)) (nth xs 1) (nth xs 2)
thumb_with (ti.LoadAddress _ _ _) xs = ti.LoadAddress (flag_at (nth xs 0)) (nth xs 1) (nth xs 2)
thumb_with (ti.AdjustStack _ _) xs = ti.AdjustStack (flag_at (nth xs 0)) (nth xs 1)
thumb_with (ti.PushPop _ _ _) xs = ti.PushPop (flag_at (nth xs 0)) (flag_at (nth xs 1)) (nth xs 2)
thumb_with (ti.TransferMultiple _ _ _) xs = ti.TransferMultiple (flag_at (nth xs 0)) (nth xs 1) (nth xs 2)
thumb_with (ti.BranchConditional _ _) xs = ti.BranchConditional (condition_at (nth xs 0)) (nth xs 1)
thumb_with (ti.SoftwareInterrupt _) xs = ti.SoftwareInterrupt (nth xs 0)
thumb_with (ti.Branch _) xs = ti.Branch (nth xs 0)
thumb_with (ti.BranchLink _ _) xs = ti.BranchLink (flag_at (nth xs 0)) (nth xs 1)
thumb_with (ti.Undefined _) xs = ti.Undefined (nth xs 0)

-- the instruction that a half-word's bits make in the row of another
abbrev pub thumb_as : ℕ → ThumbInstr → ThumbInstr
thumb_as v i = thumb_with i (fields_in (thumb.thumb_row i) v)

-- whether an instruction's fields keep its row's conditions: BX names no Rd
abbrev pub thumb_fits : ThumbInstr → Bool
thumb_fits (ti.HighRegister o hd hs s d) = not (high_code o == 3) || (flag hd == 0 && d == 0)
thumb_fits (ti.BranchConditional c i) = nat_lt (condition_code c) 14
thumb_fits _ = true

-- whether a half-word reads as an instruction
unfoldable pub thumb_reads : ℕ → ThumbInstr → Bool
thumb_reads v i =
    (v == word_of (thumb.thumb_row i) (thumb.thumb_fields i)) && (fits_row (thumb.thumb_row i) (thumb.thumb_fields i) && thumb_fits i)

-- the instruction that a half-word reads as
unfoldable pub thumb_of : ℕ → Option ThumbInstr
thumb_of v = find (thumb_reads v) (map (thumb_as v) thumb_rows)

-- ---- the laws

-- the word reads as this instruction, or as none
abbrev pub ArmIs : ℕ → Option ArmInstr → Type 0
ArmIs v None = arm.IsUnread v
ArmIs v (Some i) = arm.ReadsArm v i

abbrev pub ThumbIs : ℕ → Option ThumbInstr → Type 0
ThumbIs v None = thumb.IsUnread v
ThumbIs v (Some i) = thumb.ReadsThumb v i
