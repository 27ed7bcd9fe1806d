-- What lines of Thumb state say fits the rows of the instruction table.
use Rattle.std.proofs.Common.{◌≡◌, ◌≢◌, ℕ, ◌-◌, ◌/◌, ◌%◌, ◌^◌, ◌<◌, ◌==◌, ◌&&◌, ◌||◌, Bool, true, false, cond, Option, refl, sym, ap, subst, arith}
use Rattle.std.specs.Prelude.{nat_lt, nat_le, not, Result, Ok, Err}
use Rattle.std.proofs.lemmas.Bool.{eqb-true, ltb-true}
use Rattle.sdt_word.specs.Codes.{condition_code}
use Rattle.sdt_word.specs.declared.codes.Condition.{Condition}
use Rattle.sdt_word.specs.declared.codes.Condition.TheVariants as condition
use Rattle.sdt_word.specs.declared.codes.ShiftKind.TheVariants as kind
use Rattle.sdt_fault.specs.declared.kinds.LineKind.{LineKind}
use Rattle.sdt_fault.specs.declared.kinds.LineKind.TheVariants.{BadOperand, OutOfRange, Constant}
use Rattle.thumb_isa.specs.Codes.{high_code, immediate_code, signed_code, thumb_operation_code, thumb_shift_code}
use Rattle.thumb_isa.specs.declared.instr.HighOperation.{HighOperation}
use Rattle.thumb_isa.specs.declared.instr.HighOperation.TheVariants as high
use Rattle.thumb_isa.specs.declared.instr.ImmediateOperation.{ImmediateOperation}
use Rattle.thumb_isa.specs.declared.instr.ImmediateOperation.TheVariants as immediate
use Rattle.thumb_isa.specs.declared.instr.SignedTransfer.{SignedTransfer}
use Rattle.thumb_isa.specs.declared.instr.SignedTransfer.TheVariants as signed
use Rattle.thumb_isa.specs.declared.instr.ThumbInstr.{ThumbInstr}
use Rattle.thumb_isa.specs.declared.instr.ThumbInstr.TheVariants as instr
use Rattle.thumb_isa.specs.declared.instr.ThumbOperation.{ThumbOperation}
use Rattle.thumb_isa.specs.declared.instr.ThumbOperation.TheVariants as operation
use Rattle.thumb_isa.specs.declared.instr.ThumbShift.{ThumbShift}
use Rattle.thumb_isa.specs.declared.instr.ThumbShift.TheVariants as shift
use Rattle.asm_model.specs.declared.exprs.Expr.{Expr}
use Rattle.asm_model.specs.declared.operands.LiteralAddress.{LiteralAddress}
use Rattle.asm_model.specs.declared.operands.LiteralAddress.TheVariants as literal
use Rattle.asm_model.specs.declared.operands.Register.{Register}
use Rattle.asm_model.specs.declared.operands.ThumbOperand.TheVariants as operand
use Rattle.asm_model.specs.declared.statements.PseudoLine.{PseudoLine}
use Rattle.asm_model.specs.declared.statements.PseudoLine.TheVariants as pseudo
use Rattle.asm_model.specs.declared.thumb_lines.ThumbLine.{ThumbLine}
use Rattle.asm_model.specs.declared.thumb_lines.ThumbLine.TheVariants as thumb
use Rattle.asm_model.specs.Readings.{and_then, both, mapped}
use Rattle.asm_model.specs.Said.{HighSaid, IsConditional, ThumbSaid}
use Rattle.source_model.specs.declared.codes.ThumbCode.{ThumbCode}
use Rattle.source_model.specs.declared.codes.ThumbCode.TheVariants.{One, Pair}
use Rattle.source_model.specs.Contexts.{Context, number_in, own_offset, register, value_of}
use Rattle.source_model.specs.ArmForms.{list_bits}
use Rattle.source_model.specs.Immediates.{negated}
use Rattle.source_model.specs.ThumbForms.{address_of, adding, amount_of, branch_by, from_word_pc, half_words, high_pair, immediate_below, immediate_by, link_bit, listed, literal_at, literal_transfer, low, low_immediate, low_list, low_number, low_pair, low_sum, low_three, low_transfer, low_two, no_row, offset_in, one, or_other, pair_fields, pair_of, stack_immediate, stack_sum, stack_transfer, sum_by, summed, thumb_displacement, thumb_instruction, thumb_pseudo, transfer_by, transfer_unit, units_below, word_offset, words_to}
use Rattle.asm_instructions.specs.ThumbFits.{CodeFits, CodeIsWritten, ThumbFits}
use Rattle.asm_instructions.proofs.FitLemmas.{Holds, amount_fits, condition_below, flag_below, mapped_holds, then_holds, where_holds}

-- ---- codes

shift_below : (k : ThumbShift) → thumb_shift_code k < 2 ^ 2
shift_below shift.Lsl = omega arith
shift_below _ = omega arith

shift_known : (k : ThumbShift) → thumb_shift_code k ≢ 3
shift_known shift.Lsl e = absurd (omega arith)
shift_known _ e = absurd (omega arith)

immediate_low : (o : ImmediateOperation) → immediate_code o < 2 ^ 2
immediate_low immediate.Mov = omega arith
immediate_low _ = omega arith

operation_low : (o : ThumbOperation) → thumb_operation_code o < 2 ^ 4
operation_low operation.And = omega arith
operation_low _ = omega arith

signed_low : (k : SignedTransfer) → signed_code k < 2 ^ 2
signed_low signed.StoreHalf = omega arith
signed_low _ = omega arith

conditional : (k : Condition) → IsConditional k → condition_code k < 14
conditional condition.Al h = absurd h
conditional condition.Eq h = omega arith
conditional _ h = omega arith

-- ---- what holds of results

then_with : {A B : Type 0} → (P : A → Type 0) (Q : B → Type 0) (f : A → Result B LineKind) (r : Result A LineKind) → Holds P r → ((a : A) → P a → Holds Q (f a))
    → Holds Q (and_then r f)
then_with P Q f (Ok a) h q = q a h
then_with P Q f (Err k) h q = tt

both_hold : {A B : Type 0} → (P : A → Type 0) (Q : B → Type 0) (a : Result A LineKind) (b : Result B LineKind) → Holds P a → Holds Q b
    → Holds (λ p. P p.0 × Q p.1) (both a b)
both_hold P Q (Ok a) (Ok b) h g = (h, g)
both_hold P Q (Ok a) (Err k) h g = tt
both_hold P Q (Err k) (Ok b) h g = tt
both_hold P Q (Err k) (Err j) h g = tt

no_row_fits : (number : Result ℕ LineKind) → Holds ThumbFits (no_row number)
no_row_fits (Ok n) = tt
no_row_fits (Err k) = tt

one_fits : (i : Result ThumbInstr LineKind) → Holds ThumbFits i → Holds CodeFits (one i)
one_fits (Ok i) h = h
one_fits (Err k) h = tt

-- ---- numbers

abbrev IsLow : ℕ → Type 0
IsLow r = r < 2 ^ 3

abbrev Below : ℕ → ℕ → Type 0
Below limit n = n < limit

low_fits : (r : ℕ) → Holds IsLow (low_number r)
low_fits r = where_holds IsLow (nat_lt r 8) (Ok r) (Err BadOperand) (λ t. ltb-true r 8 t) tt

with_low : (d : ℕ) (number : Result ℕ LineKind) (f : ℕ × ℕ → Result ThumbInstr LineKind) → ((n : ℕ) → IsLow d → Holds ThumbFits (f (d, n)))
    → Holds ThumbFits (and_then (both (low_number d) number) f)
with_low d (Ok n) f h = by_test (nat_lt d 8) refl
  where
    by_test : (t : Bool) → nat_lt d 8 ≡ t → Holds ThumbFits (and_then (both (cond t (Ok d) (Err BadOperand)) (Ok n)) f)
    by_test true e = h n (ltb-true d 8 e)
    by_test false e = tt
with_low d (Err k) f h = by_test (nat_lt d 8)
  where
    by_test : (t : Bool) → Holds ThumbFits (and_then (both (cond t (Ok d) (Err BadOperand)) (Err k)) f)
    by_test true = tt
    by_test false = tt

units_fit : (unit limit n : ℕ) → Holds (Below limit) (units_below unit limit n)
units_fit unit limit n =
    where_holds (Below limit) (n % unit == 0) (cond (nat_lt (n / unit) limit) (Ok (n / unit)) (Err OutOfRange)) (Err BadOperand)
    (λ t. where_holds (Below limit) (nat_lt (n / unit) limit) (Ok (n / unit)) (Err OutOfRange) (λ u. ltb-true (n / unit) limit u) tt) tt

immediate_fits : (unit limit n : ℕ) → Holds (Below limit) (immediate_below unit limit n)
immediate_fits unit limit n =
    where_holds (Below limit) (n % unit == 0) (cond (nat_lt (n / unit) limit) (Ok (n / unit)) (Err Constant)) (Err Constant)
    (λ t. where_holds (Below limit) (nat_lt (n / unit) limit) (Ok (n / unit)) (Err Constant) (λ u. ltb-true (n / unit) limit u) tt) tt

other_fits : (limit : ℕ) (s : Bool) (i j : Result ℕ LineKind) → Holds (Below limit) i → Holds (Below limit) j → Holds (λ t. t.1 < limit) (or_other s i j)
other_fits limit s (Ok i) j h g = h
other_fits limit s (Err k) (Ok j) h g = g
other_fits limit s (Err k) (Err l) h g = tt

summed_fits : (unit limit : ℕ) (s : Bool) (n : ℕ) → Holds (λ t. t.1 < limit) (summed unit limit s n)
summed_fits unit limit s n =
    other_fits limit s (immediate_below unit limit n) (immediate_below unit limit (negated n)) (immediate_fits unit limit n)
    (immediate_fits unit limit (negated n))

amounts_fit : (k : ThumbShift) (n : ℕ) → Holds (Below (2 ^ 5)) (amount_of k n)
amounts_fit shift.Lsl n = amount_fits kind.Lsl n
amounts_fit shift.Lsr n = amount_fits kind.Lsr n
amounts_fit shift.Asr n = amount_fits kind.Asr n

halves_fit : (limit d : ℕ) → d / 2 % limit < limit → Holds (Below limit) (half_words limit d)
halves_fit limit d h =
    where_holds (Below limit) (d % 2 == 0) (cond (nat_lt d limit || nat_le (2 ^ 32 - limit) d) (Ok (d / 2 % limit)) (Err OutOfRange)) (Err BadOperand)
    (λ t. where_holds (Below limit) (nat_lt d limit || nat_le (2 ^ 32 - limit) d) (Ok (d / 2 % limit)) (Err OutOfRange) (λ u. h) tt) tt

listed_fits : (more bits : ℕ) → Holds (λ p. p.1 < 2 ^ 8) (listed more bits)
listed_fits more bits =
    where_holds (λ p. p.1 < 2 ^ 8) (bits / 2 ^ 8 == 0) (Ok (false, bits)) (cond (bits / 2 ^ 8 == more) (Ok (true, bits % 2 ^ 8)) (Err BadOperand))
    (λ t. let e : bits / 2 ^ 8 ≡ 0 = eqb-true (bits / 2 ^ 8) 0 t in omega arith)
    (where_holds (λ p. p.1 < 2 ^ 8) (bits / 2 ^ 8 == more) (Ok (true, bits % 2 ^ 8)) (Err BadOperand) (λ t. omega arith) tt)

low_list_fits : (bits : ℕ) → Holds (Below (2 ^ 8)) (low_list bits)
low_list_fits bits =
    where_holds (Below (2 ^ 8)) (bits / 2 ^ 8 == 0) (Ok bits) (Err BadOperand)
    (λ t. let e : bits / 2 ^ 8 ≡ 0 = eqb-true (bits / 2 ^ 8) 0 t in omega arith) tt

-- ---- operations of two registers

high_row : (o : HighOperation) (d s : ℕ) → high_code o < 3 → ThumbFits (high_pair o d s)
high_row o d s low = record {
  fields = (omega arith, (flag_below (not (nat_lt d 8)), (flag_below (not (nat_lt s 8)), (omega arith, (omega arith, tt)))));
  conditions = record { no_high = λ e. absurd (omega arith); no_rd = λ e. absurd (omega arith) };
}

exchange_row : (s : ℕ) → ThumbFits (high_pair high.Bx 0 s)
exchange_row s = record {
  fields = (omega arith, (flag_below false, (flag_below (not (nat_lt s 8)), (omega arith, (omega arith, tt)))));
  conditions = record { no_high = λ e. refl; no_rd = λ e. refl };
}

-- BX names no Rd
abbrev HighGiven : HighOperation → ℕ → Type 0
HighGiven high.Bx d = d ≡ 0
HighGiven _ d = Unit {0}

high_fits : (o : HighOperation) (d s : ℕ) → HighGiven o d → ThumbFits (high_pair o d s)
high_fits high.Add d s h = high_row high.Add d s (omega arith)
high_fits high.Cmp d s h = high_row high.Cmp d s (omega arith)
high_fits high.Mov d s h = high_row high.Mov d s (omega arith)
high_fits high.Bx d s h = subst (λ z. ThumbFits (high_pair high.Bx z s)) (sym h) (exchange_row s)

low_pair_fits : (o : HighOperation) (d s : ℕ) → HighGiven o d → IsLow d → IsLow s → ThumbFits (low_pair o d s)
low_pair_fits high.Add d s h to from = record { fields = (flag_below false, (flag_below false, (from, (to, (to, tt))))); conditions = tt }
low_pair_fits high.Cmp d s h to from = record { fields = (operation_low operation.Cmp, (from, (to, tt))); conditions = tt }
low_pair_fits high.Mov d s h to from = record { fields = (flag_below true, (flag_below false, (omega arith, (from, (to, tt))))); conditions = tt }
low_pair_fits high.Bx d s h to from = high_fits high.Bx d s h

pair_fits : (o : HighOperation) (d s : ℕ) → HighGiven o d → ThumbFits (pair_of o d s)
pair_fits o d s h = by_tests (nat_lt d 8) (nat_lt s 8) refl refl
  where
    by_tests : (t u : Bool) → nat_lt d 8 ≡ t → nat_lt s 8 ≡ u → ThumbFits (cond (t && u) (low_pair o d s) (high_pair o d s))
    by_tests true true e f = low_pair_fits o d s h (ltb-true d 8 e) (ltb-true s 8 f)
    by_tests true false e f = high_fits o d s h
    by_tests false u e f = high_fits o d s h

-- ---- operations with a number

low_sum_fits : (subtract : Bool) (d s n : ℕ) → IsLow d → IsLow s → Holds ThumbFits (low_sum subtract d s n)
low_sum_fits subtract d s n to from =
    mapped_holds (λ t. t.1 < 8) ThumbFits (λ t. instr.AddSubtract true t.0 t.1 s d) (summed 1 8 subtract n) (summed_fits 1 8 subtract n)
    (λ t h. record { fields = (flag_below true, (flag_below t.0, (h, (from, (to, tt))))); conditions = tt })

address_fits : (stack : Bool) (d n : ℕ) → IsLow d → Holds ThumbFits (address_of stack d n)
address_fits stack d n to =
    mapped_holds (Below 256) ThumbFits (λ i. instr.LoadAddress stack d i) (immediate_below 4 256 n) (immediate_fits 4 256 n)
    (λ i h. record { fields = (flag_below stack, (to, (h, tt))); conditions = tt })

sum_fits : (subtract : Bool) (d s : ℕ) (number : Result ℕ LineKind) → Holds ThumbFits (sum_by subtract d s number)
sum_fits subtract d s number =
    by_tests (nat_lt s 8) subtract (s == 13) (s == 15) refl
  where
    by_tests : (low take sp pc : Bool) → nat_lt s 8 ≡ low
        → Holds ThumbFits (
        cond low (and_then (both (low_number d) number) (λ p. low_sum take p.0 s p.1))
        (cond take (no_row number)
        (cond sp (and_then (both (low_number d) number) (λ p. address_of true p.0 p.1))
        (cond pc (and_then (both (low_number d) number) (λ p. address_of false p.0 p.1)) (no_row number)))))
    by_tests true take sp pc e = with_low d number (λ p. low_sum take p.0 s p.1) (λ n to. low_sum_fits take d s n to (ltb-true s 8 e))
    by_tests false true sp pc e = no_row_fits number
    by_tests false false true pc e = with_low d number (λ p. address_of true p.0 p.1) (λ n to. address_fits true d n to)
    by_tests false false false true e = with_low d number (λ p. address_of false p.0 p.1) (λ n to. address_fits false d n to)
    by_tests false false false false e = no_row_fits number

added_fits : (subtract : Bool) (d n : ℕ) → IsLow d → Holds ThumbFits (mapped (λ t. instr.DataImmediate (adding t.0) d t.1) (summed 1 256 subtract n))
added_fits subtract d n to =
    mapped_holds (λ t. t.1 < 256) ThumbFits (λ t. instr.DataImmediate (adding t.0) d t.1) (summed 1 256 subtract n) (summed_fits 1 256 subtract n)
    (λ t h. record { fields = (immediate_low (adding t.0), (to, (h, tt))); conditions = tt })

taken_fits : (o : ImmediateOperation) (d n : ℕ) → IsLow d → Holds ThumbFits (mapped (λ i. instr.DataImmediate o d i) (immediate_below 1 256 n))
taken_fits o d n to =
    mapped_holds (Below 256) ThumbFits (λ i. instr.DataImmediate o d i) (immediate_below 1 256 n) (immediate_fits 1 256 n)
    (λ i h. record { fields = (immediate_low o, (to, (h, tt))); conditions = tt })

low_immediate_fits : (o : ImmediateOperation) (d n : ℕ) → IsLow d → Holds ThumbFits (low_immediate o d n)
low_immediate_fits immediate.Mov d n to = taken_fits immediate.Mov d n to
low_immediate_fits immediate.Cmp d n to = taken_fits immediate.Cmp d n to
low_immediate_fits immediate.Add d n to = added_fits false d n to
low_immediate_fits immediate.Sub d n to = added_fits true d n to

stack_sum_fits : (subtract : Bool) (n : ℕ) → Holds ThumbFits (stack_sum subtract n)
stack_sum_fits subtract n =
    mapped_holds (λ t. t.1 < 128) ThumbFits (λ t. instr.AdjustStack t.0 t.1) (summed 4 128 subtract n) (summed_fits 4 128 subtract n)
    (λ t h. record { fields = (flag_below t.0, (h, tt)); conditions = tt })

stack_fits : (o : ImmediateOperation) (number : Result ℕ LineKind) → Holds ThumbFits (stack_immediate o number)
stack_fits immediate.Add number = then_holds ThumbFits (stack_sum false) number (stack_sum_fits false)
stack_fits immediate.Sub number = then_holds ThumbFits (stack_sum true) number (stack_sum_fits true)
stack_fits immediate.Mov number = no_row_fits number
stack_fits immediate.Cmp number = no_row_fits number

immediates_fit : (o : ImmediateOperation) (d : ℕ) (number : Result ℕ LineKind) → Holds ThumbFits (immediate_by o d number)
immediates_fit o d number =
    where_holds ThumbFits (nat_lt d 8) (and_then number (low_immediate o d)) (cond (d == 13) (stack_immediate o number) (no_row number))
    (λ t. then_holds ThumbFits (low_immediate o d) number (λ n. low_immediate_fits o d n (ltb-true d 8 t)))
    (where_holds ThumbFits (d == 13) (stack_immediate o number) (no_row number) (λ t. stack_fits o number) (no_row_fits number))

-- ---- transfers

low_transfer_fits : (load byte : Bool) (d n v : ℕ) → IsLow d → IsLow n → Holds ThumbFits (low_transfer load byte d n v)
low_transfer_fits load byte d n v to base =
    mapped_holds (Below 32) ThumbFits (λ i. instr.TransferImmediate byte load i n d) (units_below (transfer_unit byte) 32 v)
    (units_fit (transfer_unit byte) 32 v)
    (λ i h. record { fields = (flag_below byte, (flag_below load, (h, (base, (to, tt))))); conditions = tt })

stack_transfer_fits : (load : Bool) (d v : ℕ) → IsLow d → Holds ThumbFits (stack_transfer load d v)
stack_transfer_fits load d v to =
    mapped_holds (Below 256) ThumbFits (λ i. instr.TransferStack load d i) (units_below 4 256 v) (units_fit 4 256 v)
    (λ i h. record { fields = (flag_below load, (to, (h, tt))); conditions = tt })

literal_transfer_fits : (d v : ℕ) → IsLow d → Holds ThumbFits (literal_transfer d v)
literal_transfer_fits d v to =
    mapped_holds (Below 256) ThumbFits (λ i. instr.LoadLiteral d i) (units_below 4 256 v) (units_fit 4 256 v)
    (λ i h. record { fields = (to, (h, tt)); conditions = tt })

transfer_fits : (load byte : Bool) (d n : ℕ) (number : Result ℕ LineKind) → Holds ThumbFits (transfer_by load byte d n number)
transfer_fits load byte d n number = by_tests (nat_lt n 8) byte (n == 13) (load && n == 15) refl
  where
    by_tests : (low narrow sp pc : Bool) → nat_lt n 8 ≡ low
        → Holds ThumbFits (
        cond low (and_then (both (low_number d) number) (λ p. low_transfer load narrow p.0 n p.1))
        (cond narrow (no_row number)
        (cond sp (and_then (both (low_number d) number) (λ p. stack_transfer load p.0 p.1))
        (cond pc (and_then (both (low_number d) number) (λ p. literal_transfer p.0 p.1)) (no_row number)))))
    by_tests true narrow sp pc e = with_low d number (λ p. low_transfer load narrow p.0 n p.1) (λ v to. low_transfer_fits load narrow d n v to (ltb-true n 8 e))
    by_tests false true sp pc e = no_row_fits number
    by_tests false false true pc e = with_low d number (λ p. stack_transfer load p.0 p.1) (λ v to. stack_transfer_fits load d v to)
    by_tests false false false true e = with_low d number (λ p. literal_transfer p.0 p.1) (λ v to. literal_transfer_fits d v to)
    by_tests false false false false e = no_row_fits number

-- ---- in a context

module _ (c : Context) where
  offset_fits : (unit limit : ℕ) (e : Expr) → Holds (Below limit) (offset_in c unit limit e)
  offset_fits unit limit e = then_holds (Below limit) (units_below unit limit) (number_in c e) (units_fit unit limit)

  words_fit : (at : Result ℕ LineKind) → Holds (Below 256) (words_to c at)
  words_fit at = then_holds (Below 256) (λ a. units_below 4 256 (from_word_pc c a)) at (λ a. units_fit 4 256 (from_word_pc c a))

  literal_fits : (a : LiteralAddress) → Holds (Below 256) (literal_at c a)
  literal_fits (literal.Offset e) = offset_fits 4 256 e
  literal_fits (literal.Label e) = words_fit (own_offset c (value_of c e))

  two_fit : (r s : Register) → Holds (λ p. IsLow p.0 × IsLow p.1) (low_two c r s)
  two_fit r s = both_hold IsLow IsLow (low c r) (low c s) (low_fits (register c r)) (low_fits (register c s))

  three_fit : (r s t : Register) → Holds (λ p. (IsLow p.0.0 × IsLow p.0.1) × IsLow p.1) (low_three c r s t)
  three_fit r s t =
      both_hold (λ p. IsLow p.0 × IsLow p.1) IsLow (low_two c r s) (low c t) (two_fit r s) (low_fits (register c t))

  field_fits : (limit : ℕ) (link : Bool) (e : Expr) → ((d : ℕ) → d / 2 % limit < limit)
      → Holds (Below limit) (and_then (thumb_displacement link c (value_of c e)) (half_words limit))
  field_fits limit link e h = then_holds (Below limit) (half_words limit) (thumb_displacement link c (value_of c e)) (λ d. halves_fit limit d (h d))

  -- a row of a low register and a number below 2^8
  row_fits : (make : ℕ → ℕ → ThumbInstr) (r : Register) (n : Result ℕ LineKind) → Holds (Below 256) n → ((d i : ℕ) → IsLow d → i < 2 ^ 8 → ThumbFits (make d i))
      → Holds CodeFits (one (mapped (λ p. make p.0 p.1) (both (low c r) n)))
  row_fits make r n below h =
      one_fits (mapped (λ p. make p.0 p.1) (both (low c r) n))
      (mapped_holds (λ p. IsLow p.0 × Below 256 p.1) ThumbFits (λ p. make p.0 p.1) (both (low c r) n)
      (both_hold IsLow (Below 256) (low c r) n (low_fits (register c r)) below) (λ p k. h p.0 p.1 k.0 k.1))

  -- a row of three low registers
  three_row : (make : ℕ → ℕ → ℕ → ThumbInstr) (r s t : Register) → ((x y z : ℕ) → IsLow x → IsLow y → IsLow z → ThumbFits (make x y z))
      → Holds CodeFits (one (mapped (λ p. make p.1 p.0.1 p.0.0) (low_three c r s t)))
  three_row make r s t h =
      one_fits (mapped (λ p. make p.1 p.0.1 p.0.0) (low_three c r s t))
      (mapped_holds (λ p. (IsLow p.0.0 × IsLow p.0.1) × IsLow p.1) ThumbFits (λ p. make p.1 p.0.1 p.0.0) (low_three c r s t) (three_fit r s t)
      (λ p k. h p.1 p.0.1 p.0.0 k.1 k.0.1 k.0.0))

  -- a row of two low registers and a number
  two_row : (make : ℕ → ℕ → ℕ → ThumbInstr) (limit : ℕ) (r s : Register) (n : Result ℕ LineKind) → Holds (Below limit) n
      → ((x y z : ℕ) → Below limit x → IsLow y → IsLow z → ThumbFits (make x y z))
      → Holds CodeFits (one (mapped (λ p. make p.1 p.0.1 p.0.0) (both (low_two c r s) n)))
  two_row make limit r s n below h =
      one_fits (mapped (λ p. make p.1 p.0.1 p.0.0) (both (low_two c r s) n))
      (mapped_holds (λ p. (IsLow p.0.0 × IsLow p.0.1) × Below limit p.1) ThumbFits (λ p. make p.1 p.0.1 p.0.0) (both (low_two c r s) n)
      (both_hold (λ p. IsLow p.0 × IsLow p.1) (Below limit) (low_two c r s) n (two_fit r s) below)
      (λ p k. h p.1 p.0.1 p.0.0 k.1 k.0.1 k.0.0))

  high_given : (o : HighOperation) (rd : Register) → HighSaid o rd → HighGiven o (register c rd)
  high_given high.Add rd h = tt
  high_given high.Cmp rd h = tt
  high_given high.Mov rd h = tt
  high_given high.Bx rd h = ap (register c) h

  thumb_fits : (l : ThumbLine) → ThumbSaid l → Holds CodeFits (thumb_instruction c l)
  thumb_fits (thumb.ShiftImmediate by rd rs e) h =
      two_row (λ i s d. instr.ShiftImmediate by i s d) (2 ^ 5) rd rs (and_then (number_in c e) (amount_of by))
      (then_holds (Below (2 ^ 5)) (amount_of by) (number_in c e) (amounts_fit by))
      (λ i s d k y z. record { fields = (shift_below by, (k, (y, (z, tt)))); conditions = shift_known by })
  thumb_fits (thumb.AddSubtract subtract rd rs (operand.Register rn)) h =
      three_row (λ n s d. instr.AddSubtract false subtract n s d) rd rs rn
      (λ n s d x y z. record { fields = (flag_below false, (flag_below subtract, (x, (y, (z, tt))))); conditions = tt })
  thumb_fits (thumb.AddSubtract subtract rd rs (operand.Number e)) h =
      one_fits (sum_by subtract (register c rd) (register c rs) (number_in c e)) (sum_fits subtract (register c rd) (register c rs) (number_in c e))
  thumb_fits (thumb.DataImmediate o rd e) h =
      one_fits (immediate_by o (register c rd) (number_in c e)) (immediates_fit o (register c rd) (number_in c e))
  thumb_fits (thumb.DataRegister o rd rs) h =
      one_fits (mapped (λ r. instr.DataRegister o r.1 r.0) (low_two c rd rs))
      (mapped_holds (λ p. IsLow p.0 × IsLow p.1) ThumbFits (λ r. instr.DataRegister o r.1 r.0) (low_two c rd rs) (two_fit rd rs)
      (λ p k. record { fields = (operation_low o, (k.1, (k.0, tt))); conditions = tt }))
  thumb_fits (thumb.HighRegister o rd rs) h = pair_fits o (register c rd) (register c rs) (high_given o rd h.2)
  thumb_fits (thumb.LoadLiteral rd a) h =
      row_fits (λ d i. instr.LoadLiteral d i) rd (literal_at c a) (literal_fits a) (λ d i x y. record { fields = (x, (y, tt)); conditions = tt })
  thumb_fits (thumb.TransferRegister load byte rd rn ro) h =
      three_row (λ o n d. instr.TransferRegister load byte o n d) rd rn ro
      (λ o n d x y z. record { fields = (flag_below load, (flag_below byte, (x, (y, (z, tt))))); conditions = tt })
  thumb_fits (thumb.TransferSigned k rd rn ro) h =
      three_row (λ o n d. instr.TransferSigned k o n d) rd rn ro
      (λ o n d x y z. record { fields = (signed_low k, (x, (y, (z, tt)))); conditions = tt })
  thumb_fits (thumb.TransferImmediate load byte rd rn e) h =
      one_fits (transfer_by load byte (register c rd) (register c rn) (number_in c e)) (transfer_fits load byte (register c rd) (register c rn) (number_in c e))
  thumb_fits (thumb.TransferHalf load rd rn e) h =
      two_row (λ i n d. instr.TransferHalf load i n d) 32 rd rn (offset_in c 2 32 e) (offset_fits 2 32 e)
      (λ i n d k y z. record { fields = (flag_below load, (k, (y, (z, tt)))); conditions = tt })
  thumb_fits (thumb.TransferStack load rd e) h =
      row_fits (λ d i. instr.TransferStack load d i) rd (offset_in c 4 256 e) (offset_fits 4 256 e)
      (λ d i x y. record { fields = (flag_below load, (x, (y, tt))); conditions = tt })
  thumb_fits (thumb.LoadAddress stack rd e) h =
      row_fits (λ d i. instr.LoadAddress stack d i) rd (and_then (number_in c e) (immediate_below 4 256))
      (then_holds (Below 256) (immediate_below 4 256) (number_in c e) (immediate_fits 4 256))
      (λ d i x y. record { fields = (flag_below stack, (x, (y, tt))); conditions = tt })
  thumb_fits (thumb.AdjustStack subtract e) h =
      one_fits (and_then (number_in c e) (stack_sum subtract)) (then_holds ThumbFits (stack_sum subtract) (number_in c e) (stack_sum_fits subtract))
  thumb_fits (thumb.PushPop load list) h =
      one_fits (mapped (λ p. instr.PushPop load p.0 p.1) (listed (link_bit load) (list_bits c list.items 0 16)))
      (mapped_holds (λ p. p.1 < 2 ^ 8) ThumbFits (λ p. instr.PushPop load p.0 p.1) (listed (link_bit load) (list_bits c list.items 0 16))
      (listed_fits (link_bit load) (list_bits c list.items 0 16))
      (λ p k. record { fields = (flag_below load, (flag_below p.0, (k, tt))); conditions = tt }))
  thumb_fits (thumb.TransferMultiple load rn list) h =
      row_fits (λ n bits. instr.TransferMultiple load n bits) rn (low_list (list_bits c list.items 0 16)) (low_list_fits (list_bits c list.items 0 16))
      (λ n bits x y. record { fields = (flag_below load, (x, (y, tt))); conditions = tt })
  thumb_fits (thumb.BranchConditional k e) h =
      one_fits (mapped (λ f. instr.BranchConditional k f) (branch_by c (2 ^ 8) e))
      (mapped_holds (Below (2 ^ 8)) ThumbFits (λ f. instr.BranchConditional k f) (branch_by c (2 ^ 8) e) (field_fits (2 ^ 8) false e (λ d. omega arith))
      (λ f x. record { fields = (condition_below k, (x, tt)); conditions = conditional k h.0 }))
  thumb_fits (thumb.SoftwareInterrupt e) h =
      one_fits (mapped (λ i. instr.SoftwareInterrupt i) (offset_in c 1 256 e))
      (mapped_holds (Below 256) ThumbFits (λ i. instr.SoftwareInterrupt i) (offset_in c 1 256 e) (offset_fits 1 256 e)
      (λ i x. record { fields = (x, tt); conditions = tt }))
  thumb_fits (thumb.Branch e) h =
      one_fits (mapped (λ f. instr.Branch f) (branch_by c (2 ^ 11) e))
      (mapped_holds (Below (2 ^ 11)) ThumbFits (λ f. instr.Branch f) (branch_by c (2 ^ 11) e) (field_fits (2 ^ 11) false e (λ d. omega arith))
      (λ f x. record { fields = (x, tt); conditions = tt }))
  thumb_fits (thumb.BranchLink e) h =
      mapped_holds (Below (2 ^ 22)) CodeFits pair_fields (and_then (thumb_displacement true c (value_of c e)) (half_words (2 ^ 22)))
      (field_fits (2 ^ 22) true e (λ d. omega arith)) (λ f x. (omega arith, omega arith))

  pub thumb_instruction_fits : (l : ThumbLine) (i : ThumbCode) → ThumbSaid l → thumb_instruction c l ≡ Ok i → CodeFits i
  thumb_instruction_fits l i h e = subst (Holds CodeFits) e (thumb_fits l h)

  loads_fit : (make : ℕ → ℕ → ThumbInstr) (r : Register) (at : Result ℕ LineKind) → ((d i : ℕ) → IsLow d → i < 2 ^ 8 → ThumbFits (make d i))
      → Holds ThumbFits (mapped (λ p. make p.0 p.1) (both (low c r) (words_to c at)))
  loads_fit make r at h =
      mapped_holds (λ p. IsLow p.0 × Below 256 p.1) ThumbFits (λ p. make p.0 p.1) (both (low c r) (words_to c at))
      (both_hold IsLow (Below 256) (low c r) (words_to c at) (low_fits (register c r)) (words_fit at)) (λ p k. h p.0 p.1 k.0 k.1)

  pseudo_fits : (word : Option ℕ) (l : PseudoLine) → Holds ThumbFits (thumb_pseudo c word l)
  pseudo_fits word (pseudo.LoadConstant k rd e) =
      loads_fit (λ d i. instr.LoadLiteral d i) rd (word_offset word) (λ d i x y. record { fields = (x, (y, tt)); conditions = tt })
  pseudo_fits word (pseudo.Address k rd e) =
      loads_fit (λ d i. instr.LoadAddress false d i) rd (own_offset c (value_of c e))
      (λ d i x y. record { fields = (flag_below false, (x, (y, tt))); conditions = tt })
  pseudo_fits word (pseudo.LongAddress k rd e) = tt
  pseudo_fits word pseudo.NoOperation = record {
    fields = (omega arith, (flag_below true, (flag_below true, (omega arith, (omega arith, tt)))));
    conditions = record { no_high = λ e. absurd (omega arith); no_rd = λ e. refl };
  }

  pub thumb_pseudo_fits : (word : Option ℕ) (l : PseudoLine) (i : ThumbInstr) → thumb_pseudo c word l ≡ Ok i → ThumbFits i
  thumb_pseudo_fits word l i e = subst (Holds ThumbFits) e (pseudo_fits word l)

-- ---- half-words

pub codes_are_written : (i : ThumbCode) → CodeFits i → CodeIsWritten i
codes_are_written (One i) h = record { is_half = refl; fits = h.fields; conditions = h.conditions }
codes_are_written (Pair f g) h = (
  record { is_half = refl; fits = (flag_below false, (h.0, tt)); conditions = tt },
  record { is_half = refl; fits = (flag_below true, (h.1, tt)); conditions = tt },
)
