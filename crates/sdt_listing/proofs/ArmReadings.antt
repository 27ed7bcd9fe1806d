-- The instruction that a word reads as is found.
use Rattle.std.proofs.Common.{◌≡◌, ℕ, ◌/◌, Bool, true, false, not, ◌&&◌, ◌||◌, ◌==◌, List, map, find, Option, Some, None, MatchOption, IfSome, Result, Ok, Err, IfOk, Decides, refl, inl, inr, ap, ◌∙◌, subst, arith}
use Rattle.std.proofs.lemmas.Bool.Decides.{Decides-and, Decides-or, Decides-not, Decides-eqb, Decides-like}
use Rattle.sdt_word.specs.Numbers.{bit, bits, flag}
use Rattle.sdt_word.specs.Codes.{condition_code, shift_code}
use Rattle.sdt_word.specs.Rows.{word_of}
use Rattle.sdt_word.specs.declared.codes.Condition.{Condition}
use Rattle.sdt_word.specs.declared.codes.Condition.TheVariants.{Eq}
use Rattle.sdt_word.specs.declared.codes.ShiftKind.{ShiftKind}
use Rattle.sdt_word.specs.declared.codes.ShiftKind.TheVariants.{Lsl}
use Rattle.arm_isa.specs.ArmRows.{FitsConditions, FitsHalf, FitsOperation, IsUndefined, IsUnread, ReadsArm, arm_fields, arm_row}
use Rattle.arm_isa.specs.Codes.{half_code, operation_code}
use Rattle.arm_isa.specs.declared.instr.ArmInstr.{ArmInstr}
use Rattle.arm_isa.specs.declared.instr.ArmInstr.TheVariants as ai
use Rattle.arm_isa.specs.declared.instr.HalfKind.{HalfKind}
use Rattle.arm_isa.specs.declared.instr.HalfKind.TheVariants.{Half}
use Rattle.arm_isa.specs.declared.instr.Operation.{Operation}
use Rattle.arm_isa.specs.declared.instr.Operation.TheVariants.{And}
use Rattle.sdt_listing.specs.ArmTexts.{word_text, instruction_text}
use Rattle.sdt_listing.specs.Parts.{data_word}
use Rattle.sdt_listing.specs.Readings.{ArmIs, arm_as, arm_fits, arm_of, arm_reads, arm_rows, arm_with, condition_at, fits_half, fits_operation, fits_row, flag_at, half_at, is_undefined, operation_at, shift_at}
use Rattle.sdt_listing.proofs.RowFields.{Decides-fits_row, fields_in-word, is_binary}
use Rattle.arm_isa.proofs.ArmLemmas.{instruction-same}
use Rattle.sdt_listing.proofs.Firsts.{Decides-implies, Has, first_holds}

-- ---- numbers

pub condition_at-code : (c : Condition) → condition_at (condition_code c) ≡ c
unfolding condition_at
condition_at-code Eq = refl
condition_at-code _ = refl

shift_at-code : (t : ShiftKind) → shift_at (shift_code t) ≡ t
unfolding shift_at
shift_at-code Lsl = refl
shift_at-code _ = refl

pub flag_at-flag : (b : Bool) → flag_at (flag b) ≡ b
unfolding flag_at
flag_at-flag false = refl
flag_at-flag true = refl

operation_at-code : (o : Operation) → operation_at (operation_code o) ≡ o
unfolding operation_at
operation_at-code And = refl
operation_at-code _ = refl

half_at-code : (y : HalfKind) → half_at (half_code y) ≡ y
unfolding half_at
half_at-code Half = refl
half_at-code _ = refl

-- ---- an instruction is made of its fields

arm_with-fields : (i : ArmInstr) → arm_with i (arm_fields i) ≡ i
unfolding arm_with
arm_with-fields (ai.DataImmediate x0 x1 x2 x3 x4 x5 x6) = cc (condition_at-code x0, operation_at-code x1, flag_at-flag x2)
arm_with-fields (ai.DataShifted x0 x1 x2 x3 x4 x5 x6 x7) = cc (condition_at-code x0, operation_at-code x1, flag_at-flag x2, shift_at-code x6)
arm_with-fields (ai.DataRegisterShifted x0 x1 x2 x3 x4 x5 x6 x7) = cc (condition_at-code x0, operation_at-code x1, flag_at-flag x2, shift_at-code x6)
arm_with-fields (ai.Multiply x0 x1 x2 x3 x4 x5 x6) = cc (condition_at-code x0, flag_at-flag x1, flag_at-flag x2)
arm_with-fields (ai.MultiplyLong x0 x1 x2 x3 x4 x5 x6 x7) = cc (condition_at-code x0, flag_at-flag x1, flag_at-flag x2, flag_at-flag x3)
arm_with-fields (ai.Swap x0 x1 x2 x3 x4) = cc (condition_at-code x0, flag_at-flag x1)
arm_with-fields (ai.BranchExchange x0 x1) = cc (condition_at-code x0)
arm_with-fields (ai.ReadStatus x0 x1 x2) = cc (condition_at-code x0, flag_at-flag x1)
arm_with-fields (ai.WriteStatus x0 x1 x2 x3) = cc (condition_at-code x0, flag_at-flag x1)
arm_with-fields (ai.WriteStatusImmediate x0 x1 x2 x3 x4) = cc (condition_at-code x0, flag_at-flag x1)
arm_with-fields (ai.TransferImmediate x0 x1 x2 x3 x4 x5 x6 x7 x8) = cc (condition_at-code x0, flag_at-flag x1, flag_at-flag x2, flag_at-flag x3, flag_at-flag x4, flag_at-flag x5)
arm_with-fields (ai.TransferShifted x0 x1 x2 x3 x4 x5 x6 x7 x8 x9 x10) = cc (condition_at-code x0, flag_at-flag x1, flag_at-flag x2, flag_at-flag x3, flag_at-flag x4, flag_at-flag x5, shift_at-code x9)
arm_with-fields (ai.TransferHalf x0 x1 x2 x3 x4 x5 x6 x7 x8 x9 x10) = cc (condition_at-code x0, flag_at-flag x1, flag_at-flag x2, flag_at-flag x3, flag_at-flag x4, flag_at-flag x5, half_at-code x9)
arm_with-fields (ai.TransferBlock x0 x1 x2 x3 x4 x5 x6 x7) = cc (condition_at-code x0, flag_at-flag x1, flag_at-flag x2, flag_at-flag x3, flag_at-flag x4, flag_at-flag x5)
arm_with-fields (ai.Branch x0 x1 x2) = cc (condition_at-code x0, flag_at-flag x1)
arm_with-fields (ai.SoftwareInterrupt x0 x1) = cc (condition_at-code x0)
arm_with-fields (ai.Undefined x0 x1) = cc (condition_at-code x0)

arm_binary : (i : ArmInstr) → is_binary (arm_row i) ≡ true
arm_binary (ai.Undefined c u) = refl
arm_binary i = refl

arm_as-same : (v : ℕ) (i : ArmInstr) → ReadsArm v i → arm_as v i ≡ i
arm_as-same v i r =
    ap (arm_with i) (fields_in-word (arm_row i) (arm_fields i) v 0 (arm_binary i) r.fits (omega (arith, r.is_word))) ∙ arm_with-fields i

arm_among : (v : ℕ) (i : ArmInstr) → Has (arm_as v i) (map (arm_as v) arm_rows)
unfolding arm_with
arm_among v (ai.DataImmediate x0 x1 x2 x3 x4 x5 x6) = inl refl
arm_among v (ai.DataShifted x0 x1 x2 x3 x4 x5 x6 x7) = inr (inl refl)
arm_among v (ai.DataRegisterShifted x0 x1 x2 x3 x4 x5 x6 x7) = inr (inr (inl refl))
arm_among v (ai.Multiply x0 x1 x2 x3 x4 x5 x6) = inr (inr (inr (inl refl)))
arm_among v (ai.MultiplyLong x0 x1 x2 x3 x4 x5 x6 x7) = inr (inr (inr (inr (inl refl))))
arm_among v (ai.Swap x0 x1 x2 x3 x4) = inr (inr (inr (inr (inr (inl refl)))))
arm_among v (ai.BranchExchange x0 x1) = inr (inr (inr (inr (inr (inr (inl refl))))))
arm_among v (ai.ReadStatus x0 x1 x2) = inr (inr (inr (inr (inr (inr (inr (inl refl)))))))
arm_among v (ai.WriteStatus x0 x1 x2 x3) = inr (inr (inr (inr (inr (inr (inr (inr (inl refl))))))))
arm_among v (ai.WriteStatusImmediate x0 x1 x2 x3 x4) = inr (inr (inr (inr (inr (inr (inr (inr (inr (inl refl)))))))))
arm_among v (ai.TransferImmediate x0 x1 x2 x3 x4 x5 x6 x7 x8) = inr (inr (inr (inr (inr (inr (inr (inr (inr (inr (inl refl))))))))))
arm_among v (ai.TransferShifted x0 x1 x2 x3 x4 x5 x6 x7 x8 x9 x10) = inr (inr (inr (inr (inr (inr (inr (inr (inr (inr (inr (inl refl)))))))))))
arm_among v (ai.TransferHalf x0 x1 x2 x3 x4 x5 x6 x7 x8 x9 x10) = inr (inr (inr (inr (inr (inr (inr (inr (inr (inr (inr (inr (inl refl))))))))))))
arm_among v (ai.TransferBlock x0 x1 x2 x3 x4 x5 x6 x7) = inr (inr (inr (inr (inr (inr (inr (inr (inr (inr (inr (inr (inr (inl refl)))))))))))))
arm_among v (ai.Branch x0 x1 x2) = inr (inr (inr (inr (inr (inr (inr (inr (inr (inr (inr (inr (inr (inr (inl refl))))))))))))))
arm_among v (ai.SoftwareInterrupt x0 x1) = inr (inr (inr (inr (inr (inr (inr (inr (inr (inr (inr (inr (inr (inr (inr (inl refl)))))))))))))))
arm_among v (ai.Undefined x0 x1) = inr (inr (inr (inr (inr (inr (inr (inr (inr (inr (inr (inr (inr (inr (inr (inr (inl refl))))))))))))))))

-- ---- the test

Decides-operation : (o s n d : ℕ) → Decides (fits_operation o s n d) (FitsOperation o s n d)
Decides-operation o s n d =
    Decides-like (fits_operation o s n d)
    (λ h. record { sets_flags = λ e. (h.0 e).0; no_rd = λ e. (h.0 e).1; no_rn_mov = λ e. h.1.0 e; no_rn_mvn = λ e. h.1.1 e })
    (λ f. (λ e. (f.sets_flags e, f.no_rd e), (f.no_rn_mov, f.no_rn_mvn)))
    (Decides-and (not (o / 4 == 2) || (s == 1 && d == 0)) ((not (o == 13) || n == 0) && (not (o == 15) || n == 0))
    (Decides-implies (o / 4 == 2) (s == 1 && d == 0) (Decides-eqb (o / 4) 2) (Decides-and (s == 1) (d == 0) (Decides-eqb s 1) (Decides-eqb d 0)))
    (Decides-and (not (o == 13) || n == 0) (not (o == 15) || n == 0)
    (Decides-implies (o == 13) (n == 0) (Decides-eqb o 13) (Decides-eqb n 0))
    (Decides-implies (o == 15) (n == 0) (Decides-eqb o 15) (Decides-eqb n 0))))

Decides-half : (p e w l h y : ℕ) → Decides (fits_half p e w l h y) (FitsHalf p e w l h y)
Decides-half p e w l h y =
    Decides-like (fits_half p e w l h y)
    (λ k. record { kind = k.0; store = k.1.0; post = k.1.1.0; register = k.1.1.1 })
    (λ f. (f.kind, (f.store, (f.post, f.register))))
    (Decides-and (not (y == 0)) ((not (l == 0) || y == 1) && ((not (p == 0) || w == 0) && (not (e == 0) || h == 0)))
    (Decides-not (y == 0) (Decides-eqb y 0))
    (Decides-and (not (l == 0) || y == 1) ((not (p == 0) || w == 0) && (not (e == 0) || h == 0))
    (Decides-implies (l == 0) (y == 1) (Decides-eqb l 0) (Decides-eqb y 1))
    (Decides-and (not (p == 0) || w == 0) (not (e == 0) || h == 0)
    (Decides-implies (p == 0) (w == 0) (Decides-eqb p 0) (Decides-eqb w 0))
    (Decides-implies (e == 0) (h == 0) (Decides-eqb e 0) (Decides-eqb h 0)))))

Decides-undefined : (u : ℕ) → Decides (is_undefined u) (IsUndefined u)
Decides-undefined u =
    Decides-or (bits u 25 3 == 3 && bit u 4 == 1) (bits u 25 3 == 6 || bits u 24 4 == 14)
    (Decides-and (bits u 25 3 == 3) (bit u 4 == 1) (Decides-eqb (bits u 25 3) 3) (Decides-eqb (bit u 4) 1))
    (Decides-or (bits u 25 3 == 6) (bits u 24 4 == 14) (Decides-eqb (bits u 25 3) 6) (Decides-eqb (bits u 24 4) 14))

Decides-arm_fits : (i : ArmInstr) → Decides (arm_fits i) (FitsConditions i)
Decides-arm_fits (ai.DataImmediate c o s n d r b) = Decides-operation (operation_code o) (flag s) n d
Decides-arm_fits (ai.DataShifted c o s n d a t m) = Decides-operation (operation_code o) (flag s) n d
Decides-arm_fits (ai.DataRegisterShifted c o s n d rs t m) = Decides-operation (operation_code o) (flag s) n d
Decides-arm_fits (ai.Multiply c a s d n rs m) = Decides-implies (flag a == 0) (n == 0) (Decides-eqb (flag a) 0) (Decides-eqb n 0)
Decides-arm_fits (ai.TransferHalf c p u e w l n d h y k) = Decides-half (flag p) (flag e) (flag w) (flag l) h (half_code y)
Decides-arm_fits (ai.Undefined c u) = Decides-undefined u
Decides-arm_fits i = (λ e. tt, λ u. refl)

Decides-arm_reads : (v : ℕ) (i : ArmInstr) → Decides (arm_reads v i) (ReadsArm v i)
unfolding arm_reads
Decides-arm_reads v i =
    Decides-like (arm_reads v i)
    (λ h. record { is_word = h.0; fits = h.1.0; conditions = h.1.1.0; condition = h.1.1.1 })
    (λ r. (r.is_word, (r.fits, (r.conditions, r.condition))))
    (Decides-and (v == word_of (arm_row i) (arm_fields i)) (fits_row (arm_row i) (arm_fields i) && (arm_fits i && not (bits v 28 4 == 15)))
    (Decides-eqb v (word_of (arm_row i) (arm_fields i)))
    (Decides-and (fits_row (arm_row i) (arm_fields i)) (arm_fits i && not (bits v 28 4 == 15))
    (Decides-fits_row (arm_row i) (arm_fields i))
    (Decides-and (arm_fits i) (not (bits v 28 4 == 15)) (Decides-arm_fits i) (Decides-not (bits v 28 4 == 15) (Decides-eqb (bits v 28 4) 15)))))

-- ---- the instruction

found : (v : ℕ) (o : Option ArmInstr) → MatchOption o ((i : ArmInstr) → Has i (map (arm_as v) arm_rows) → ReadsArm v i → ⊥) (ReadsArm v) → ArmIs v o
found v None h = λ i r. h i (subst (λ j. Has j (map (arm_as v) arm_rows)) (arm_as-same v i r) (arm_among v i)) r
found v (Some i) h = h

pub arm_is : (v : ℕ) → ArmIs v (arm_of v)
unfolding arm_of
arm_is v = found v (find (arm_reads v) (map (arm_as v) arm_rows)) (first_holds (arm_reads v) (ReadsArm v) (Decides-arm_reads v) (map (arm_as v) arm_rows))

-- what is decoded is this instruction
same : (v : ℕ) (o p : Option ArmInstr) → ArmIs v p → IfSome o (ReadsArm v) → ((i : ArmInstr) → ReadsArm v i → o ≡ Some i) → o ≡ p
same v None None is f only = refl
same v (Some i) None is f only = absurd (is i f)
same v o (Some j) is f only = only j is

pub decoded : (v : ℕ) (o : Option ArmInstr) → IfSome o (ReadsArm v) → ((i : ArmInstr) → ReadsArm v i → o ≡ Some i) → o ≡ arm_of v
decoded v o f only = same v o (arm_of v) (arm_is v) f only

-- so the text is that of the instruction, or of none
reads_as : (v : ℕ) (p : Option ArmInstr) (i : ArmInstr) → ArmIs v p → ReadsArm v i → p ≡ Some i
reads_as v None i is r = absurd (is i r)
reads_as v (Some j) i is r = ap Some (instruction-same v j i is r)

reads_none : (v : ℕ) (p : Option ArmInstr) → ArmIs v p → IsUnread v → p ≡ None
reads_none v None is u = refl
reads_none v (Some j) is u = absurd (u j is)

pub as_instruction : {E : Type 0} (at v : ℕ) (r : Result (List ℕ) E) → IfOk r (λ t. t ≡ word_text at v (arm_of v)) → (i : ArmInstr) → ReadsArm v i → IfOk r (λ t. t ≡ instruction_text at v i)
as_instruction at v (Ok t) h i reads = h ∙ ap (word_text at v) (reads_as v (arm_of v) i (arm_is v) reads)
as_instruction at v (Err e) h i reads = tt

pub as_data : {E : Type 0} (at v : ℕ) (r : Result (List ℕ) E) → IfOk r (λ t. t ≡ word_text at v (arm_of v)) → IsUnread v → IfOk r (λ t. t ≡ data_word v)
as_data at v (Ok t) h u = h ∙ ap (word_text at v) (reads_none v (arm_of v) (arm_is v) u)
as_data at v (Err e) h u = tt
