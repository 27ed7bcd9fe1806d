-- An instruction that fits its row is read from the row's word.
use Rattle.std.proofs.Common.{◌≡◌, ◌≢◌, ℕ, ◌+◌, ◌*◌, ◌^◌, ◌<◌, ◌≤◌, ◌&&◌, List, [], ◌∷◌, Bool, true, refl, sym, subst, arith, mul-le-mul_right, pow-add}
use Rattle.std.specs.Prelude.{nat_lt}
use Rattle.std.proofs.lemmas.Bool.{ltb-true}
use Rattle.sdt_word.specs.Codes.{condition_code}
use Rattle.sdt_word.specs.Numbers.{bits}
use Rattle.sdt_word.specs.Rows.{Blank, Digit, Field, FitsRow, Part, digits_of, placed_of, width_of, word_of}
use Rattle.sdt_word.specs.declared.codes.Condition.{Condition}
use Rattle.sdt_word.specs.declared.codes.Condition.TheVariants as condition
use Rattle.arm_isa.specs.ArmRows.{ReadsArm, arm_fields, arm_row}
use Rattle.arm_isa.specs.declared.instr.ArmInstr.{ArmInstr}
use Rattle.arm_isa.specs.declared.instr.ArmInstr.TheVariants.{DataImmediate, DataShifted, DataRegisterShifted, Multiply, MultiplyLong, Swap, BranchExchange, ReadStatus, WriteStatus, WriteStatusImmediate, TransferImmediate, TransferShifted, TransferHalf, TransferBlock, Branch, SoftwareInterrupt, Undefined}
use Rattle.asm_instructions.specs.Fits.{Fits}
use Rattle.base_lemmas.proofs.BaseLemmas.{first_of_both, second_of_both}

abbrev are_bits : List Part → Bool
are_bits [] = true
are_bits (Digit d ∷ row) = nat_lt d 2 && are_bits row
are_bits (Field letter n ∷ row) = are_bits row
are_bits (Blank ∷ row) = are_bits row

word_below : (row : List Part) (xs : List ℕ) → FitsRow row xs → are_bits row ≡ true → digits_of row + placed_of row xs < 2 ^ width_of row
word_below [] [] h b = omega arith
word_below [] (x ∷ xs) h b = absurd h
word_below (Digit d ∷ row) xs h b =
    let rest = word_below row xs h (second_of_both (nat_lt d 2) (are_bits row) b) in
    let digit : d < 2 = ltb-true d 2 (first_of_both (nat_lt d 2) (are_bits row) b) in
    let e = pow-add 2 1 (width_of row) in
    let top : d * 2 ^ width_of row ≤ 1 * 2 ^ width_of row = mul-le-mul_right (2 ^ width_of row) (omega arith) in
    omega arith
word_below (Field a n ∷ row) [] h b = absurd h
word_below (Field a n ∷ row) (x ∷ xs) h b =
    let rest = word_below row xs h.1 b in
    let e = pow-add 2 n (width_of row) in
    let fits : x < 2 ^ n = h.0 in
    let top : (x + 1) * 2 ^ width_of row ≤ 2 ^ n * 2 ^ width_of row = mul-le-mul_right (2 ^ width_of row) (omega arith) in
    omega arith
word_below (Blank ∷ row) xs h b = word_below row xs h b

condition_under : (c : Condition) → condition_code c < 15
condition_under condition.Eq = omega arith
condition_under _ = omega arith

top_bits : (code digits placed : ℕ) → code < 15 → digits + placed < 2 ^ 28 → bits (digits + (code * 2 ^ 28 + placed)) 28 4 ≢ 15
top_bits code digits placed low rest e = omega arith

abbrev behind : {A : Type 0} → List A → List A
behind [] = []
behind (x ∷ xs) = xs

first_field : (row : List Part) (xs : List ℕ) (letter code : ℕ) → width_of row ≡ 28 → are_bits row ≡ true → FitsRow row xs → code < 15
    → bits (word_of (Field letter 4 ∷ row) (code ∷ xs)) 28 4 ≢ 15
first_field row xs letter code width b fits low =
    let rest : digits_of row + placed_of row xs < 2 ^ 28 = subst (λ n. digits_of row + placed_of row xs < 2 ^ n) width (word_below row xs fits b) in
    subst (λ n. bits (digits_of row + (code * 2 ^ n + placed_of row xs)) 28 4 ≢ 15) (sym width) (top_bits code (digits_of row) (placed_of row xs) low rest)

written : (i : ArmInstr) (c : Condition) (row : List Part) (xs : List ℕ) → arm_row i ≡ Field 99 4 ∷ row → arm_fields i ≡ condition_code c ∷ xs
    → width_of row ≡ 28 → are_bits row ≡ true → Fits i → ReadsArm (word_of (arm_row i) (arm_fields i)) i
written i c row xs e f width b h =
    let both : FitsRow (Field 99 4 ∷ row) (condition_code c ∷ xs) = subst (λ r. FitsRow r (condition_code c ∷ xs)) e (subst (FitsRow (arm_row i)) f h.fields) in
    record {
      is_word = refl;
      fits = h.fields;
      conditions = h.conditions;
      condition = subst (λ r. bits (word_of r (arm_fields i)) 28 4 ≢ 15) (sym e)
          (subst (λ y. bits (word_of (Field 99 4 ∷ row) y) 28 4 ≢ 15) (sym f) (first_field row xs 99 (condition_code c) width b both.1 (condition_under c)));
    }

pub fitting_are_written : (i : ArmInstr) → Fits i → ReadsArm (word_of (arm_row i) (arm_fields i)) i
fitting_are_written (DataImmediate k a b c d e f) fits =
    let i = DataImmediate k a b c d e f in written i k (behind (arm_row i)) (behind (arm_fields i)) refl refl refl refl fits
fitting_are_written (DataShifted k a b c d e f g) fits =
    let i = DataShifted k a b c d e f g in written i k (behind (arm_row i)) (behind (arm_fields i)) refl refl refl refl fits
fitting_are_written (DataRegisterShifted k a b c d e f g) fits =
    let i = DataRegisterShifted k a b c d e f g in written i k (behind (arm_row i)) (behind (arm_fields i)) refl refl refl refl fits
fitting_are_written (Multiply k a b c d e f) fits =
    let i = Multiply k a b c d e f in written i k (behind (arm_row i)) (behind (arm_fields i)) refl refl refl refl fits
fitting_are_written (MultiplyLong k a b c d e f g) fits =
    let i = MultiplyLong k a b c d e f g in written i k (behind (arm_row i)) (behind (arm_fields i)) refl refl refl refl fits
fitting_are_written (Swap k a b c d) fits =
    let i = Swap k a b c d in written i k (behind (arm_row i)) (behind (arm_fields i)) refl refl refl refl fits
fitting_are_written (BranchExchange k a) fits =
    let i = BranchExchange k a in written i k (behind (arm_row i)) (behind (arm_fields i)) refl refl refl refl fits
fitting_are_written (ReadStatus k a b) fits =
    let i = ReadStatus k a b in written i k (behind (arm_row i)) (behind (arm_fields i)) refl refl refl refl fits
fitting_are_written (WriteStatus k a b c) fits =
    let i = WriteStatus k a b c in written i k (behind (arm_row i)) (behind (arm_fields i)) refl refl refl refl fits
fitting_are_written (WriteStatusImmediate k a b c d) fits =
    let i = WriteStatusImmediate k a b c d in written i k (behind (arm_row i)) (behind (arm_fields i)) refl refl refl refl fits
fitting_are_written (TransferImmediate k a b c d e f g h) fits =
    let i = TransferImmediate k a b c d e f g h in written i k (behind (arm_row i)) (behind (arm_fields i)) refl refl refl refl fits
fitting_are_written (TransferShifted k a b c d e f g h i j) fits =
    let i = TransferShifted k a b c d e f g h i j in written i k (behind (arm_row i)) (behind (arm_fields i)) refl refl refl refl fits
fitting_are_written (TransferHalf k a b c d e f g h i j) fits =
    let i = TransferHalf k a b c d e f g h i j in written i k (behind (arm_row i)) (behind (arm_fields i)) refl refl refl refl fits
fitting_are_written (TransferBlock k a b c d e f g) fits =
    let i = TransferBlock k a b c d e f g in written i k (behind (arm_row i)) (behind (arm_fields i)) refl refl refl refl fits
fitting_are_written (Branch k a b) fits =
    let i = Branch k a b in written i k (behind (arm_row i)) (behind (arm_fields i)) refl refl refl refl fits
fitting_are_written (SoftwareInterrupt k a) fits =
    let i = SoftwareInterrupt k a in written i k (behind (arm_row i)) (behind (arm_fields i)) refl refl refl refl fits
fitting_are_written (Undefined k a) fits =
    let i = Undefined k a in written i k (behind (arm_row i)) (behind (arm_fields i)) refl refl refl refl fits
