-- The instruction that a half-word reads as is found.
use Rattle.std.proofs.Common.{◌≡◌, ℕ, true, not, ◌&&◌, ◌||◌, ◌==◌, List, map, find, Option, Some, None, MatchOption, IfSome, Result, Ok, Err, IfOk, Decides, refl, inl, inr, ap, ◌∙◌, subst, arith}
use Rattle.std.proofs.lemmas.Bool.Decides.{Decides-and, Decides-eqb, Decides-like, Decides-ltb}
use Rattle.sdt_word.specs.Numbers.{flag}
use Rattle.sdt_word.specs.Codes.{condition_code}
use Rattle.sdt_word.specs.Rows.{word_of}
use Rattle.thumb_isa.specs.ThumbRows.{FitsConditions, IsUnread, ReadsThumb, thumb_fields, thumb_row}
use Rattle.thumb_isa.specs.Codes.{high_code, immediate_code, signed_code, thumb_operation_code, thumb_shift_code}
use Rattle.thumb_isa.specs.declared.instr.HighOperation.{HighOperation}
use Rattle.thumb_isa.specs.declared.instr.HighOperation.TheVariants as high
use Rattle.thumb_isa.specs.declared.instr.ImmediateOperation.{ImmediateOperation}
use Rattle.thumb_isa.specs.declared.instr.ImmediateOperation.TheVariants as imm
use Rattle.thumb_isa.specs.declared.instr.SignedTransfer.{SignedTransfer}
use Rattle.thumb_isa.specs.declared.instr.SignedTransfer.TheVariants.{StoreHalf}
use Rattle.thumb_isa.specs.declared.instr.ThumbInstr.{ThumbInstr}
use Rattle.thumb_isa.specs.declared.instr.ThumbInstr.TheVariants as ti
use Rattle.thumb_isa.specs.declared.instr.ThumbOperation.{ThumbOperation}
use Rattle.thumb_isa.specs.declared.instr.ThumbOperation.TheVariants as top
use Rattle.thumb_isa.specs.declared.instr.ThumbShift.{ThumbShift}
use Rattle.thumb_isa.specs.declared.instr.ThumbShift.TheVariants as tsh
use Rattle.thumb_isa.proofs.ThumbLemmas.{instruction-same}
use Rattle.sdt_listing.specs.ThumbTexts.{half_text, instruction_text}
use Rattle.sdt_listing.specs.Parts.{data_half}
use Rattle.sdt_listing.specs.Readings.{ThumbIs, fits_row, high_at, immediate_at, signed_at, thumb_as, thumb_fits, thumb_of, thumb_operation_at, thumb_reads, thumb_rows, thumb_shift_at, thumb_with}
use Rattle.sdt_listing.proofs.RowFields.{Decides-fits_row, fields_in-word, is_binary}
use Rattle.sdt_listing.proofs.Firsts.{Decides-implies, Has, first_holds}
use Rattle.sdt_listing.proofs.ArmReadings.{condition_at-code, flag_at-flag}

-- ---- numbers

thumb_shift_at-code : (o : ThumbShift) → thumb_shift_at (thumb_shift_code o) ≡ o
unfolding thumb_shift_at
thumb_shift_at-code tsh.Lsl = refl
thumb_shift_at-code _ = refl

immediate_at-code : (o : ImmediateOperation) → immediate_at (immediate_code o) ≡ o
unfolding immediate_at
immediate_at-code imm.Mov = refl
immediate_at-code _ = refl

thumb_operation_at-code : (o : ThumbOperation) → thumb_operation_at (thumb_operation_code o) ≡ o
unfolding thumb_operation_at
thumb_operation_at-code top.And = refl
thumb_operation_at-code _ = refl

high_at-code : (o : HighOperation) → high_at (high_code o) ≡ o
unfolding high_at
high_at-code high.Add = refl
high_at-code _ = refl

signed_at-code : (o : SignedTransfer) → signed_at (signed_code o) ≡ o
unfolding signed_at
signed_at-code StoreHalf = refl
signed_at-code _ = refl

-- ---- an instruction is made of its fields

thumb_with-fields : (i : ThumbInstr) → thumb_with i (thumb_fields i) ≡ i
unfolding thumb_with
thumb_with-fields (ti.ShiftImmediate x0 x1 x2 x3) = cc (thumb_shift_at-code x0)
thumb_with-fields (ti.AddSubtract x0 x1 x2 x3 x4) = cc (flag_at-flag x0, flag_at-flag x1)
thumb_with-fields (ti.DataImmediate x0 x1 x2) = cc (immediate_at-code x0)
thumb_with-fields (ti.DataRegister x0 x1 x2) = cc (thumb_operation_at-code x0)
thumb_with-fields (ti.HighRegister x0 x1 x2 x3 x4) = cc (high_at-code x0, flag_at-flag x1, flag_at-flag x2)
thumb_with-fields (ti.LoadLiteral x0 x1) = refl
thumb_with-fields (ti.TransferRegister x0 x1 x2 x3 x4) = cc (flag_at-flag x0, flag_at-flag x1)
thumb_with-fields (ti.TransferSigned x0 x1 x2 x3) = cc (signed_at-code x0)
thumb_with-fields (ti.TransferImmediate x0 x1 x2 x3 x4) = cc (flag_at-flag x0, flag_at-flag x1)
thumb_with-fields (ti.TransferHalf x0 x1 x2 x3) = cc (flag_at-flag x0)
thumb_with-fields (ti.TransferStack x0 x1 x2) = cc (flag_at-flag x0)
thumb_with-fields (ti.LoadAddress x0 x1 x2) = cc (flag_at-flag x0)
thumb_with-fields (ti.AdjustStack x0 x1) = cc (flag_at-flag x0)
thumb_with-fields (ti.PushPop x0 x1 x2) = cc (flag_at-flag x0, flag_at-flag x1)
thumb_with-fields (ti.TransferMultiple x0 x1 x2) = cc (flag_at-flag x0)
thumb_with-fields (ti.BranchConditional x0 x1) = cc (condition_at-code x0)
thumb_with-fields (ti.SoftwareInterrupt x0) = refl
thumb_with-fields (ti.Branch x0) = refl
thumb_with-fields (ti.BranchLink x0 x1) = cc (flag_at-flag x0)
thumb_with-fields (ti.Undefined x0) = refl

thumb_binary : (i : ThumbInstr) → is_binary (thumb_row i) ≡ true
thumb_binary (ti.Undefined u) = refl
thumb_binary i = refl

thumb_as-same : (v : ℕ) (i : ThumbInstr) → ReadsThumb v i → thumb_as v i ≡ i
thumb_as-same v i r =
    ap (thumb_with i) (fields_in-word (thumb_row i) (thumb_fields i) v 0 (thumb_binary i) r.fits (omega (arith, r.is_half))) ∙ thumb_with-fields i

thumb_among : (v : ℕ) (i : ThumbInstr) → Has (thumb_as v i) (map (thumb_as v) thumb_rows)
unfolding thumb_with
thumb_among v (ti.ShiftImmediate x0 x1 x2 x3) = inl refl
thumb_among v (ti.AddSubtract x0 x1 x2 x3 x4) = inr (inl refl)
thumb_among v (ti.DataImmediate x0 x1 x2) = inr (inr (inl refl))
thumb_among v (ti.DataRegister x0 x1 x2) = inr (inr (inr (inl refl)))
thumb_among v (ti.HighRegister x0 x1 x2 x3 x4) = inr (inr (inr (inr (inl refl))))
thumb_among v (ti.LoadLiteral x0 x1) = inr (inr (inr (inr (inr (inl refl)))))
thumb_among v (ti.TransferRegister x0 x1 x2 x3 x4) = inr (inr (inr (inr (inr (inr (inl refl))))))
thumb_among v (ti.TransferSigned x0 x1 x2 x3) = inr (inr (inr (inr (inr (inr (inr (inl refl)))))))
thumb_among v (ti.TransferImmediate x0 x1 x2 x3 x4) = inr (inr (inr (inr (inr (inr (inr (inr (inl refl))))))))
thumb_among v (ti.TransferHalf x0 x1 x2 x3) = inr (inr (inr (inr (inr (inr (inr (inr (inr (inl refl)))))))))
thumb_among v (ti.TransferStack x0 x1 x2) = inr (inr (inr (inr (inr (inr (inr (inr (inr (inr (inl refl))))))))))
thumb_among v (ti.LoadAddress x0 x1 x2) = inr (inr (inr (inr (inr (inr (inr (inr (inr (inr (inr (inl refl)))))))))))
thumb_among v (ti.AdjustStack x0 x1) = inr (inr (inr (inr (inr (inr (inr (inr (inr (inr (inr (inr (inl refl))))))))))))
thumb_among v (ti.PushPop x0 x1 x2) = inr (inr (inr (inr (inr (inr (inr (inr (inr (inr (inr (inr (inr (inl refl)))))))))))))
thumb_among v (ti.TransferMultiple x0 x1 x2) = inr (inr (inr (inr (inr (inr (inr (inr (inr (inr (inr (inr (inr (inr (inl refl))))))))))))))
thumb_among v (ti.BranchConditional x0 x1) = inr (inr (inr (inr (inr (inr (inr (inr (inr (inr (inr (inr (inr (inr (inr (inl refl)))))))))))))))
thumb_among v (ti.SoftwareInterrupt x0) = inr (inr (inr (inr (inr (inr (inr (inr (inr (inr (inr (inr (inr (inr (inr (inr (inl refl))))))))))))))))
thumb_among v (ti.Branch x0) = inr (inr (inr (inr (inr (inr (inr (inr (inr (inr (inr (inr (inr (inr (inr (inr (inr (inl refl)))))))))))))))))
thumb_among v (ti.BranchLink x0 x1) = inr (inr (inr (inr (inr (inr (inr (inr (inr (inr (inr (inr (inr (inr (inr (inr (inr (inr (inl refl))))))))))))))))))
thumb_among v (ti.Undefined x0) = inr (inr (inr (inr (inr (inr (inr (inr (inr (inr (inr (inr (inr (inr (inr (inr (inr (inr (inr (inl refl)))))))))))))))))))

-- ---- the test

not_three : (o : ThumbShift) → thumb_shift_code o ≡ 3 → ⊥
not_three tsh.Lsl e = omega arith
not_three tsh.Lsr e = omega arith
not_three tsh.Asr e = omega arith

Decides-thumb_fits : (i : ThumbInstr) → Decides (thumb_fits i) (FitsConditions i)
Decides-thumb_fits (ti.ShiftImmediate o n s d) = (λ e. not_three o, λ u. refl)
Decides-thumb_fits (ti.HighRegister o h g s d) =
    Decides-like (not (high_code o == 3) || (flag h == 0 && d == 0))
    (λ k. record { no_high = λ e. (k e).0; no_rd = λ e. (k e).1 })
    (λ f. λ e. (f.no_high e, f.no_rd e))
    (Decides-implies (high_code o == 3) (flag h == 0 && d == 0) (Decides-eqb (high_code o) 3) (Decides-and (flag h == 0) (d == 0) (Decides-eqb (flag h) 0) (Decides-eqb d 0)))
Decides-thumb_fits (ti.BranchConditional c n) = Decides-ltb (condition_code c) 14
Decides-thumb_fits i = (λ e. tt, λ u. refl)

Decides-thumb_reads : (v : ℕ) (i : ThumbInstr) → Decides (thumb_reads v i) (ReadsThumb v i)
unfolding thumb_reads
Decides-thumb_reads v i =
    Decides-like (thumb_reads v i)
    (λ h. record { is_half = h.0; fits = h.1.0; conditions = h.1.1 })
    (λ r. (r.is_half, (r.fits, r.conditions)))
    (Decides-and (v == word_of (thumb_row i) (thumb_fields i)) (fits_row (thumb_row i) (thumb_fields i) && thumb_fits i)
    (Decides-eqb v (word_of (thumb_row i) (thumb_fields i)))
    (Decides-and (fits_row (thumb_row i) (thumb_fields i)) (thumb_fits i) (Decides-fits_row (thumb_row i) (thumb_fields i)) (Decides-thumb_fits i)))

-- ---- the instruction

found : (v : ℕ) (o : Option ThumbInstr) → MatchOption o ((i : ThumbInstr) → Has i (map (thumb_as v) thumb_rows) → ReadsThumb v i → ⊥) (ReadsThumb v) → ThumbIs v o
found v None h = λ i r. h i (subst (λ j. Has j (map (thumb_as v) thumb_rows)) (thumb_as-same v i r) (thumb_among v i)) r
found v (Some i) h = h

pub thumb_is : (v : ℕ) → ThumbIs v (thumb_of v)
unfolding thumb_of
thumb_is v = found v (find (thumb_reads v) (map (thumb_as v) thumb_rows)) (first_holds (thumb_reads v) (ReadsThumb v) (Decides-thumb_reads v) (map (thumb_as v) thumb_rows))

-- what is decoded is this instruction
same : (v : ℕ) (o p : Option ThumbInstr) → ThumbIs v p → IfSome o (ReadsThumb v) → ((i : ThumbInstr) → ReadsThumb v i → o ≡ Some i) → o ≡ p
same v None None is f only = refl
same v (Some i) None is f only = absurd (is i f)
same v o (Some j) is f only = only j is

pub decoded : (v : ℕ) (o : Option ThumbInstr) → IfSome o (ReadsThumb v) → ((i : ThumbInstr) → ReadsThumb v i → o ≡ Some i) → o ≡ thumb_of v
decoded v o f only = same v o (thumb_of v) (thumb_is v) f only

-- so the text is that of the instruction, or of none
reads_as : (v : ℕ) (p : Option ThumbInstr) (i : ThumbInstr) → ThumbIs v p → ReadsThumb v i → p ≡ Some i
reads_as v None i is r = absurd (is i r)
reads_as v (Some j) i is r = ap Some (instruction-same v j i is r)

reads_none : (v : ℕ) (p : Option ThumbInstr) → ThumbIs v p → IsUnread v → p ≡ None
reads_none v None is u = refl
reads_none v (Some j) is u = absurd (u j is)

pub as_instruction : {E : Type 0} (at v : ℕ) (r : Result (List ℕ) E) → IfOk r (λ t. t ≡ half_text at v (thumb_of v)) → (i : ThumbInstr) → ReadsThumb v i → IfOk r (λ t. t ≡ instruction_text at v i)
as_instruction at v (Ok t) h i reads = h ∙ ap (half_text at v) (reads_as v (thumb_of v) i (thumb_is v) reads)
as_instruction at v (Err e) h i reads = tt

pub as_data : {E : Type 0} (at v : ℕ) (r : Result (List ℕ) E) → IfOk r (λ t. t ≡ half_text at v (thumb_of v)) → IsUnread v → IfOk r (λ t. t ≡ data_half v)
as_data at v (Ok t) h u = h ∙ ap (half_text at v) (reads_none v (thumb_of v) (thumb_is v) u)
as_data at v (Err e) h u = tt
