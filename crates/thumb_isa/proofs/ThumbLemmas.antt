-- A half-word reads as at most one instruction.
use Rattle.std.proofs.Common.{◌<◌, ◌^◌, ◌≡◌, ℕ, List, [], ◌∷◌, get_or, Option, Some, None, MatchOption, refl, ap, subst, arith}
use Rattle.sdt_word.proofs.CodesLemmas.{condition_at-code, flag_at-flag}
use Rattle.sdt_word.proofs.RowsLemmas.{fields-same}
use Rattle.sdt_word.specs.Rows.{FitsRow, Part, width_of, word_of}
use Rattle.thumb_isa.specs.Codes.{high_code, immediate_code, signed_code, thumb_operation_code, thumb_shift_code}
use Rattle.thumb_isa.specs.ThumbRows.{IsUnread, ReadsThumb, thumb_fields, thumb_row}
use Rattle.thumb_isa.specs.declared.instr.HighOperation.{HighOperation}
use Rattle.thumb_isa.specs.declared.instr.HighOperation.TheVariants.{Add as HighAdd, Cmp as HighCmp, Mov as HighMov, Bx}
use Rattle.thumb_isa.specs.declared.instr.ImmediateOperation.{ImmediateOperation}
use Rattle.thumb_isa.specs.declared.instr.ImmediateOperation.TheVariants.{Mov as ByteMov, Cmp as ByteCmp, Add as ByteAdd, Sub as ByteSub}
use Rattle.thumb_isa.specs.declared.instr.SignedTransfer.{SignedTransfer}
use Rattle.thumb_isa.specs.declared.instr.SignedTransfer.TheVariants.{StoreHalf, LoadSignedByte, LoadHalf, LoadSignedHalf}
use Rattle.thumb_isa.specs.declared.instr.ThumbInstr.{ThumbInstr}
use Rattle.thumb_isa.specs.declared.instr.ThumbInstr.TheVariants.{ShiftImmediate, AddSubtract, DataImmediate, DataRegister, HighRegister, LoadLiteral, TransferRegister, TransferSigned, TransferImmediate, TransferHalf, TransferStack, LoadAddress, AdjustStack, PushPop, TransferMultiple, BranchConditional, SoftwareInterrupt, Branch, BranchLink, Undefined}
use Rattle.thumb_isa.specs.declared.instr.ThumbOperation.{ThumbOperation}
use Rattle.thumb_isa.specs.declared.instr.ThumbOperation.TheVariants.{And, Eor, Lsl, Lsr, Asr, Adc, Sbc, Ror, Tst, Neg, Cmp, Cmn, Orr, Mul, Bic, Mvn}
use Rattle.thumb_isa.specs.declared.instr.ThumbShift.{ThumbShift}
use Rattle.thumb_isa.specs.declared.instr.ThumbShift.TheVariants.{Lsl as ShiftLsl, Lsr as ShiftLsr, Asr as ShiftAsr}

-- the operations are found again by their codes
shift_at : ℕ → ThumbShift
shift_at k = get_or (ShiftLsl ∷ ShiftLsr ∷ []) k ShiftAsr

shift_at-code : (o : ThumbShift) → shift_at (thumb_shift_code o) ≡ o
unfolding shift_at
shift_at-code ShiftLsl = refl
shift_at-code _ = refl

immediate_at : ℕ → ImmediateOperation
immediate_at k = get_or (ByteMov ∷ ByteCmp ∷ ByteAdd ∷ []) k ByteSub

immediate_at-code : (o : ImmediateOperation) → immediate_at (immediate_code o) ≡ o
unfolding immediate_at
immediate_at-code ByteMov = refl
immediate_at-code _ = refl

operation_at : ℕ → ThumbOperation
operation_at k = get_or (And ∷ Eor ∷ Lsl ∷ Lsr ∷ Asr ∷ Adc ∷ Sbc ∷ Ror ∷ Tst ∷ Neg ∷ Cmp ∷ Cmn ∷ Orr ∷ Mul ∷ Bic ∷ []) k Mvn

operation_at-code : (o : ThumbOperation) → operation_at (thumb_operation_code o) ≡ o
unfolding operation_at
operation_at-code And = refl
operation_at-code _ = refl

high_at : ℕ → HighOperation
high_at k = get_or (HighAdd ∷ HighCmp ∷ HighMov ∷ []) k Bx

high_at-code : (o : HighOperation) → high_at (high_code o) ≡ o
unfolding high_at
high_at-code HighAdd = refl
high_at-code _ = refl

signed_at : ℕ → SignedTransfer
signed_at k = get_or (StoreHalf ∷ LoadSignedByte ∷ LoadHalf ∷ []) k LoadSignedHalf

signed_at-code : (o : SignedTransfer) → signed_at (signed_code o) ≡ o
unfolding signed_at
signed_at-code StoreHalf = refl
signed_at-code _ = refl

-- two instructions of one row that a half-word reads as have the same fields
fields-alike : (v : ℕ) (i j : ThumbInstr) → thumb_row i ≡ thumb_row j → ReadsThumb v i → ReadsThumb v j → thumb_fields i ≡ thumb_fields j
fields-alike v i j e p q =
    let Fits : List Part → Type 0 = λ r. FitsRow r (thumb_fields i) in
    let Half : List Part → Type 0 = λ r. v ≡ word_of r (thumb_fields i) in
    let half = subst Half e p.is_half in
    fields-same (thumb_row j) (thumb_fields i) (thumb_fields j) (subst Fits e p.fits) q.fits (omega (arith, half, q.is_half))

-- a half-word reads as at most one instruction
pub instruction-same : (v : ℕ) (i j : ThumbInstr) → ReadsThumb v i → ReadsThumb v j → i ≡ j
instruction-same v (ShiftImmediate o1 i1 s1 d1) (ShiftImmediate o2 i2 s2 d2) p q =
    let e = fields-alike v (ShiftImmediate o1 i1 s1 d1) (ShiftImmediate o2 i2 s2 d2) refl p q in
    cc (shift_at-code o1, shift_at-code o2)
instruction-same v (AddSubtract e1 o1 n1 s1 d1) (AddSubtract e2 o2 n2 s2 d2) p q =
    let e = fields-alike v (AddSubtract e1 o1 n1 s1 d1) (AddSubtract e2 o2 n2 s2 d2) refl p q in
    cc (flag_at-flag e1, flag_at-flag e2, flag_at-flag o1, flag_at-flag o2)
instruction-same v (DataImmediate o1 d1 i1) (DataImmediate o2 d2 i2) p q =
    let e = fields-alike v (DataImmediate o1 d1 i1) (DataImmediate o2 d2 i2) refl p q in
    cc (immediate_at-code o1, immediate_at-code o2)
instruction-same v (DataRegister o1 s1 d1) (DataRegister o2 s2 d2) p q =
    let e = fields-alike v (DataRegister o1 s1 d1) (DataRegister o2 s2 d2) refl p q in
    cc (operation_at-code o1, operation_at-code o2)
instruction-same v (HighRegister o1 h1 g1 s1 d1) (HighRegister o2 h2 g2 s2 d2) p q =
    let e = fields-alike v (HighRegister o1 h1 g1 s1 d1) (HighRegister o2 h2 g2 s2 d2) refl p q in
    cc (high_at-code o1, high_at-code o2, flag_at-flag h1, flag_at-flag h2, flag_at-flag g1, flag_at-flag g2)
instruction-same v (LoadLiteral d1 i1) (LoadLiteral d2 i2) p q =
    let e = fields-alike v (LoadLiteral d1 i1) (LoadLiteral d2 i2) refl p q in
    cc
instruction-same v (TransferRegister l1 b1 o1 n1 d1) (TransferRegister l2 b2 o2 n2 d2) p q =
    let e = fields-alike v (TransferRegister l1 b1 o1 n1 d1) (TransferRegister l2 b2 o2 n2 d2) refl p q in
    cc (flag_at-flag l1, flag_at-flag l2, flag_at-flag b1, flag_at-flag b2)
instruction-same v (TransferSigned k1 o1 n1 d1) (TransferSigned k2 o2 n2 d2) p q =
    let e = fields-alike v (TransferSigned k1 o1 n1 d1) (TransferSigned k2 o2 n2 d2) refl p q in
    cc (signed_at-code k1, signed_at-code k2)
instruction-same v (TransferImmediate b1 l1 i1 n1 d1) (TransferImmediate b2 l2 i2 n2 d2) p q =
    let e = fields-alike v (TransferImmediate b1 l1 i1 n1 d1) (TransferImmediate b2 l2 i2 n2 d2) refl p q in
    cc (flag_at-flag b1, flag_at-flag b2, flag_at-flag l1, flag_at-flag l2)
instruction-same v (TransferHalf l1 i1 n1 d1) (TransferHalf l2 i2 n2 d2) p q =
    let e = fields-alike v (TransferHalf l1 i1 n1 d1) (TransferHalf l2 i2 n2 d2) refl p q in
    cc (flag_at-flag l1, flag_at-flag l2)
instruction-same v (TransferStack l1 d1 i1) (TransferStack l2 d2 i2) p q =
    let e = fields-alike v (TransferStack l1 d1 i1) (TransferStack l2 d2 i2) refl p q in
    cc (flag_at-flag l1, flag_at-flag l2)
instruction-same v (LoadAddress p1 d1 i1) (LoadAddress p2 d2 i2) p q =
    let e = fields-alike v (LoadAddress p1 d1 i1) (LoadAddress p2 d2 i2) refl p q in
    cc (flag_at-flag p1, flag_at-flag p2)
instruction-same v (AdjustStack s1 i1) (AdjustStack s2 i2) p q =
    let e = fields-alike v (AdjustStack s1 i1) (AdjustStack s2 i2) refl p q in
    cc (flag_at-flag s1, flag_at-flag s2)
instruction-same v (PushPop l1 r1 k1) (PushPop l2 r2 k2) p q =
    let e = fields-alike v (PushPop l1 r1 k1) (PushPop l2 r2 k2) refl p q in
    cc (flag_at-flag l1, flag_at-flag l2, flag_at-flag r1, flag_at-flag r2)
instruction-same v (TransferMultiple l1 n1 k1) (TransferMultiple l2 n2 k2) p q =
    let e = fields-alike v (TransferMultiple l1 n1 k1) (TransferMultiple l2 n2 k2) refl p q in
    cc (flag_at-flag l1, flag_at-flag l2)
instruction-same v (BranchConditional c1 i1) (BranchConditional c2 i2) p q =
    let e = fields-alike v (BranchConditional c1 i1) (BranchConditional c2 i2) refl p q in
    cc (condition_at-code c1, condition_at-code c2)
instruction-same v (SoftwareInterrupt i1) (SoftwareInterrupt i2) p q =
    let e = fields-alike v (SoftwareInterrupt i1) (SoftwareInterrupt i2) refl p q in
    cc
instruction-same v (Branch i1) (Branch i2) p q =
    let e = fields-alike v (Branch i1) (Branch i2) refl p q in
    cc
instruction-same v (BranchLink h1 i1) (BranchLink h2 i2) p q =
    let e = fields-alike v (BranchLink h1 i1) (BranchLink h2 i2) refl p q in
    cc (flag_at-flag h1, flag_at-flag h2)
instruction-same v (Undefined i1) (Undefined i2) p q =
    let e = fields-alike v (Undefined i1) (Undefined i2) refl p q in
    cc
instruction-same v i j p q = absurd (omega arith)

-- so the instruction that was found is the only one
pub only-from_found : (o : Option ThumbInstr) (v : ℕ) → MatchOption o (IsUnread v) (ReadsThumb v) → (i : ThumbInstr) → ReadsThumb v i → o ≡ Some i
only-from_found None v h i r = absurd (h i r)
only-from_found (Some j) v h i r = ap Some (instruction-same v j i h r)

-- each row has the bits of a half-word
pub width_of-thumb_row : (i : ThumbInstr) → width_of (thumb_row i) ≡ 16
width_of-thumb_row (Undefined i) = refl
width_of-thumb_row i = refl

-- what reads is a half-word
pub half-lt : (h : ℕ) (i : ThumbInstr) → ReadsThumb h i → h < 2 ^ 16
half-lt h (Undefined i) r = omega arith
half-lt h i r = omega arith
