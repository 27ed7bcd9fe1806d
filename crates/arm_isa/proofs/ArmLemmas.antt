-- A word reads as at most one instruction; what no row reads where a data-processing or a half-word
-- transfer breaks its conditions.
use Rattle.std.proofs.Common.{◌<◌, ◌^◌, ◌≡◌, ◌≢◌, ℕ, ◌+◌, ◌*◌, List, [], ◌∷◌, get_or, Option, Some, None, MatchOption, refl, ap, subst, arith}
use Rattle.sdt_word.proofs.CodesLemmas.{condition_at-code, flag_at-flag, shift_at-code}
use Rattle.sdt_word.proofs.RowsLemmas.{fields-same}
use Rattle.sdt_word.specs.Numbers.{bit, bits}
use Rattle.sdt_word.specs.Rows.{FitsRow, Part, width_of, word_of}
use Rattle.arm_isa.specs.ArmRows.{FitsHalf, FitsOperation, IsUnread, ReadsArm, arm_fields, arm_row}
use Rattle.arm_isa.specs.Codes.{half_code, operation_code}
use Rattle.arm_isa.specs.declared.instr.ArmInstr.{ArmInstr}
use Rattle.arm_isa.specs.declared.instr.ArmInstr.TheVariants.{DataImmediate, DataShifted, DataRegisterShifted, Multiply, MultiplyLong, Swap, BranchExchange, ReadStatus, WriteStatus, WriteStatusImmediate, TransferImmediate, TransferShifted, TransferHalf, TransferBlock, Branch, SoftwareInterrupt, Undefined}
use Rattle.arm_isa.specs.declared.instr.HalfKind.{HalfKind}
use Rattle.arm_isa.specs.declared.instr.HalfKind.TheVariants.{Half, SignedByte, SignedHalf}
use Rattle.arm_isa.specs.declared.instr.Operation.{Operation}
use Rattle.arm_isa.specs.declared.instr.Operation.TheVariants.{And, Eor, Sub, Rsb, Add, Adc, Sbc, Rsc, Tst, Teq, Cmp, Cmn, Orr, Mov, Bic, Mvn}

-- operations and kinds are found again by their codes
operation_at : ℕ → Operation
operation_at k = get_or (And ∷ Eor ∷ Sub ∷ Rsb ∷ Add ∷ Adc ∷ Sbc ∷ Rsc ∷ Tst ∷ Teq ∷ Cmp ∷ Cmn ∷ Orr ∷ Mov ∷ Bic ∷ []) k Mvn

operation_at-code : (o : Operation) → operation_at (operation_code o) ≡ o
unfolding operation_at
operation_at-code And = refl
operation_at-code _ = refl

half_at : ℕ → HalfKind
half_at k = get_or (Half ∷ Half ∷ SignedByte ∷ []) k SignedHalf

half_at-code : (y : HalfKind) → half_at (half_code y) ≡ y
unfolding half_at
half_at-code Half = refl
half_at-code _ = refl

-- two instructions of one row that a word reads as have the same fields
fields-alike : (v : ℕ) (i j : ArmInstr) → arm_row i ≡ arm_row j → ReadsArm v i → ReadsArm v j → arm_fields i ≡ arm_fields j
fields-alike v i j e p q =
    let Fits : List Part → Type 0 = λ r. FitsRow r (arm_fields i) in
    let Word : List Part → Type 0 = λ r. v ≡ word_of r (arm_fields i) in
    let word = subst Word e p.is_word in
    fields-same (arm_row j) (arm_fields i) (arm_fields j) (subst Fits e p.fits) q.fits (omega (arith, word, q.is_word))

-- a word reads as at most one instruction
pub instruction-same : (v : ℕ) (i j : ArmInstr) → ReadsArm v i → ReadsArm v j → i ≡ j
instruction-same v (DataImmediate c1 o1 s1 n1 d1 r1 i1) (DataImmediate c2 o2 s2 n2 d2 r2 i2) p q =
    let e = fields-alike v (DataImmediate c1 o1 s1 n1 d1 r1 i1) (DataImmediate c2 o2 s2 n2 d2 r2 i2) refl p q in
    cc (condition_at-code c1, condition_at-code c2, flag_at-flag s1, flag_at-flag s2, operation_at-code o1, operation_at-code o2)
instruction-same v (DataShifted c1 o1 s1 n1 d1 a1 t1 m1) (DataShifted c2 o2 s2 n2 d2 a2 t2 m2) p q =
    let e = fields-alike v (DataShifted c1 o1 s1 n1 d1 a1 t1 m1) (DataShifted c2 o2 s2 n2 d2 a2 t2 m2) refl p q in
    cc (condition_at-code c1, condition_at-code c2, flag_at-flag s1, flag_at-flag s2, operation_at-code o1, operation_at-code o2, shift_at-code t1, shift_at-code t2)
instruction-same v (DataRegisterShifted c1 o1 s1 n1 d1 k1 t1 m1) (DataRegisterShifted c2 o2 s2 n2 d2 k2 t2 m2) p q =
    let e = fields-alike v (DataRegisterShifted c1 o1 s1 n1 d1 k1 t1 m1) (DataRegisterShifted c2 o2 s2 n2 d2 k2 t2 m2) refl p q in
    cc (condition_at-code c1, condition_at-code c2, flag_at-flag s1, flag_at-flag s2, operation_at-code o1, operation_at-code o2, shift_at-code t1, shift_at-code t2)
instruction-same v (Multiply c1 a1 s1 d1 n1 k1 m1) (Multiply c2 a2 s2 d2 n2 k2 m2) p q =
    let e = fields-alike v (Multiply c1 a1 s1 d1 n1 k1 m1) (Multiply c2 a2 s2 d2 n2 k2 m2) refl p q in
    cc (condition_at-code c1, condition_at-code c2, flag_at-flag a1, flag_at-flag a2, flag_at-flag s1, flag_at-flag s2)
instruction-same v (MultiplyLong c1 g1 a1 s1 h1 l1 k1 m1) (MultiplyLong c2 g2 a2 s2 h2 l2 k2 m2) p q =
    let e = fields-alike v (MultiplyLong c1 g1 a1 s1 h1 l1 k1 m1) (MultiplyLong c2 g2 a2 s2 h2 l2 k2 m2) refl p q in
    cc (condition_at-code c1, condition_at-code c2, flag_at-flag g1, flag_at-flag g2, flag_at-flag a1, flag_at-flag a2, flag_at-flag s1, flag_at-flag s2)
instruction-same v (Swap c1 b1 n1 d1 m1) (Swap c2 b2 n2 d2 m2) p q =
    let e = fields-alike v (Swap c1 b1 n1 d1 m1) (Swap c2 b2 n2 d2 m2) refl p q in
    cc (condition_at-code c1, condition_at-code c2, flag_at-flag b1, flag_at-flag b2)
instruction-same v (BranchExchange c1 m1) (BranchExchange c2 m2) p q =
    let e = fields-alike v (BranchExchange c1 m1) (BranchExchange c2 m2) refl p q in
    cc (condition_at-code c1, condition_at-code c2)
instruction-same v (ReadStatus c1 p1 d1) (ReadStatus c2 p2 d2) p q =
    let e = fields-alike v (ReadStatus c1 p1 d1) (ReadStatus c2 p2 d2) refl p q in
    cc (condition_at-code c1, condition_at-code c2, flag_at-flag p1, flag_at-flag p2)
instruction-same v (WriteStatus c1 p1 f1 m1) (WriteStatus c2 p2 f2 m2) p q =
    let e = fields-alike v (WriteStatus c1 p1 f1 m1) (WriteStatus c2 p2 f2 m2) refl p q in
    cc (condition_at-code c1, condition_at-code c2, flag_at-flag p1, flag_at-flag p2)
instruction-same v (WriteStatusImmediate c1 p1 f1 r1 i1) (WriteStatusImmediate c2 p2 f2 r2 i2) p q =
    let e = fields-alike v (WriteStatusImmediate c1 p1 f1 r1 i1) (WriteStatusImmediate c2 p2 f2 r2 i2) refl p q in
    cc (condition_at-code c1, condition_at-code c2, flag_at-flag p1, flag_at-flag p2)
instruction-same v (TransferImmediate c1 p1 u1 b1 w1 l1 n1 d1 v1) (TransferImmediate c2 p2 u2 b2 w2 l2 n2 d2 v2) p q =
    let e = fields-alike v (TransferImmediate c1 p1 u1 b1 w1 l1 n1 d1 v1) (TransferImmediate c2 p2 u2 b2 w2 l2 n2 d2 v2) refl p q in
    cc (condition_at-code c1, condition_at-code c2, flag_at-flag p1, flag_at-flag p2, flag_at-flag u1, flag_at-flag u2, flag_at-flag b1, flag_at-flag b2, flag_at-flag w1, flag_at-flag w2, flag_at-flag l1, flag_at-flag l2)
instruction-same v (TransferShifted c1 p1 u1 b1 w1 l1 n1 d1 a1 t1 m1) (TransferShifted c2 p2 u2 b2 w2 l2 n2 d2 a2 t2 m2) p q =
    let e = fields-alike v (TransferShifted c1 p1 u1 b1 w1 l1 n1 d1 a1 t1 m1) (TransferShifted c2 p2 u2 b2 w2 l2 n2 d2 a2 t2 m2) refl p q in
    cc (condition_at-code c1, condition_at-code c2, flag_at-flag p1, flag_at-flag p2, flag_at-flag u1, flag_at-flag u2, flag_at-flag b1, flag_at-flag b2, flag_at-flag w1, flag_at-flag w2, flag_at-flag l1, flag_at-flag l2, shift_at-code t1, shift_at-code t2)
instruction-same v (TransferHalf c1 p1 u1 e1 w1 l1 n1 d1 h1 y1 k1) (TransferHalf c2 p2 u2 e2 w2 l2 n2 d2 h2 y2 k2) p q =
    let e = fields-alike v (TransferHalf c1 p1 u1 e1 w1 l1 n1 d1 h1 y1 k1) (TransferHalf c2 p2 u2 e2 w2 l2 n2 d2 h2 y2 k2) refl p q in
    cc (condition_at-code c1, condition_at-code c2, flag_at-flag p1, flag_at-flag p2, flag_at-flag u1, flag_at-flag u2, flag_at-flag e1, flag_at-flag e2, flag_at-flag w1, flag_at-flag w2, flag_at-flag l1, flag_at-flag l2, half_at-code y1, half_at-code y2)
instruction-same v (TransferBlock c1 p1 u1 s1 w1 l1 n1 r1) (TransferBlock c2 p2 u2 s2 w2 l2 n2 r2) p q =
    let e = fields-alike v (TransferBlock c1 p1 u1 s1 w1 l1 n1 r1) (TransferBlock c2 p2 u2 s2 w2 l2 n2 r2) refl p q in
    cc (condition_at-code c1, condition_at-code c2, flag_at-flag p1, flag_at-flag p2, flag_at-flag u1, flag_at-flag u2, flag_at-flag s1, flag_at-flag s2, flag_at-flag w1, flag_at-flag w2, flag_at-flag l1, flag_at-flag l2)
instruction-same v (Branch c1 l1 d1) (Branch c2 l2 d2) p q =
    let e = fields-alike v (Branch c1 l1 d1) (Branch c2 l2 d2) refl p q in
    cc (condition_at-code c1, condition_at-code c2, flag_at-flag l1, flag_at-flag l2)
instruction-same v (SoftwareInterrupt c1 n1) (SoftwareInterrupt c2 n2) p q =
    let e = fields-alike v (SoftwareInterrupt c1 n1) (SoftwareInterrupt c2 n2) refl p q in
    cc (condition_at-code c1, condition_at-code c2)
instruction-same v (Undefined c1 u1) (Undefined c2 u2) p q =
    let e = fields-alike v (Undefined c1 u1) (Undefined c2 u2) refl p q in
    cc (condition_at-code c1, condition_at-code c2)
instruction-same v i j p q = absurd (omega arith)

-- so the instruction that was found is the only one
pub only-from_found : (o : Option ArmInstr) (v : ℕ) → MatchOption o (IsUnread v) (ReadsArm v) → (i : ArmInstr) → ReadsArm v i → o ≡ Some i
only-from_found None v h i r = absurd (h i r)
only-from_found (Some j) v h i r = ap Some (instruction-same v j i h r)

-- what stands in the place of a data-processing row whose conditions it breaks
pub unread-number_shifted : (v : ℕ) → bits v 25 3 ≡ 0 → bit v 4 ≡ 0 → bits v 23 2 * 2 + bit v 20 ≢ 4 → (FitsOperation (bits v 21 4) (bit v 20) (bits v 16 4) (bits v 12 4) → ⊥) → IsUnread v
unread-number_shifted v group number other breaks (DataShifted c o s n d a t m) r =
    breaks (record { sets_flags = λ e. omega arith; no_rd = λ e. omega arith; no_rn_mov = λ e. omega arith; no_rn_mvn = λ e. omega arith })
unread-number_shifted v group number other breaks i r = omega arith

pub unread-register_shifted : (v : ℕ) → bits v 25 3 ≡ 0 → bit v 4 ≡ 1 → bit v 7 ≡ 0 → bits v 23 2 * 2 + bit v 20 ≢ 4 → (FitsOperation (bits v 21 4) (bit v 20) (bits v 16 4) (bits v 12 4) → ⊥) → IsUnread v
unread-register_shifted v group by_register apart other breaks (DataRegisterShifted c o s n d k t m) r =
    breaks (record { sets_flags = λ e. omega arith; no_rd = λ e. omega arith; no_rn_mov = λ e. omega arith; no_rn_mvn = λ e. omega arith })
unread-register_shifted v group by_register apart other breaks i r = omega arith

-- what stands in the place of a half-word transfer whose conditions it breaks
pub unread-transfer_half : (v : ℕ) → bits v 25 3 ≡ 0 → bit v 4 ≡ 1 → bit v 7 ≡ 1 → bits v 5 2 ≢ 0 → (FitsHalf (bit v 24) (bit v 22) (bit v 21) (bit v 20) (bits v 8 4) (bits v 5 2) → ⊥) → IsUnread v
unread-transfer_half v group by_register marked transfer breaks (TransferHalf c p u e w l n d h y k) r =
    breaks (record { kind = transfer; store = λ e. omega arith; post = λ e. omega arith; register = λ e. omega arith })
unread-transfer_half v group by_register marked transfer breaks i r = omega arith

-- each row has the bits of a word
pub width_of-arm_row : (i : ArmInstr) → width_of (arm_row i) ≡ 32
width_of-arm_row (Undefined c u) = refl
width_of-arm_row i = refl

-- what reads is a word
pub word-lt : (w : ℕ) (i : ArmInstr) → ReadsArm w i → w < 2 ^ 32
word-lt w (Undefined c u) r = omega arith
word-lt w i r = omega arith
