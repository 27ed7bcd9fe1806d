-- The shifter and the operations give words, and carries and overflows of one bit.
use Rattle.std.proofs.Common.{ℕ, ◌+◌, ◌*◌, ◌/◌, ◌%◌, ◌^◌, ◌<◌, ◌≤◌, Bool, true, false, ◌==◌, min, bit_and, bit_or, bit_xor, if◌then◌else◌, arith, mod-lt, div-le_self}
use Rattle.std.specs.Int.Bits.{and_lt}
use Rattle.std.proofs.lemmas.Nat.{or_lt, xor_lt}
use Rattle.sdt_word.specs.Numbers.{bit, flag, operand}
use Rattle.sdt_word.proofs.NumbersLemmas.{rotated-fits}
use Rattle.sdt_word.specs.declared.codes.ShiftKind.{ShiftKind}
use Rattle.sdt_word.specs.declared.codes.ShiftKind.TheVariants.{Lsl, Lsr, Asr, Ror}
use Rattle.arm_isa.specs.declared.instr.Operation.{Operation}
use Rattle.arm_isa.specs.declared.instr.Operation.TheVariants.{And, Eor, Sub, Rsb, Add, Adc, Sbc, Rsc, Tst, Teq, Cmp, Cmn, Orr, Mov, Bic, Mvn}
use Rattle.arm7_model.specs.Arithmetic.{Shifted, Computed, shifted_by, shifted_by_register, shifted_by_amount, immediate_operand, computed, sum_with, inverted, overflow_in, carry_in, as_64_bits}

-- an operand is a word with a carry of one bit
pub record FitsShifted (s : Shifted) : Type 0 where
  pub value : s.value < 2 ^ 32
  pub carry : s.carry ≤ 1

pub record FitsComputed (c : Computed) : Type 0 where
  pub value : c.value < 2 ^ 32
  pub carry : c.carry ≤ 1
  pub overflow : c.overflow ≤ 1

pub carry-le : (status : ℕ) → carry_in status ≤ 1
carry-le status = omega arith

div-le : (v n : ℕ) → v / 2 ^ n ≤ v
div-le v n = div-le_self v (2 ^ n)

shifted-fits : (kind : ShiftKind) (v n : ℕ) → v < 2 ^ 32 → FitsShifted (shifted_by kind v n)
shifted-fits Lsl v n h = record { value = mod-lt (v * 2 ^ n) (omega arith); carry = omega arith }
shifted-fits Lsr v n h = record { value = let le = div-le v n in omega arith; carry = omega arith }
shifted-fits Asr v n h = record { value = mod-lt (as_64_bits v / 2 ^ min n 32) (omega arith); carry = omega arith }
shifted-fits Ror v n h = record { value = rotated-fits v (n % 32) h (omega arith); carry = omega arith }

pub by_register-fits : (kind : ShiftKind) (v n carry : ℕ) → v < 2 ^ 32 → carry ≤ 1 → FitsShifted (shifted_by_register kind v n carry)
unfolding shifted_by_register
by_register-fits kind v n carry h hc = go (n == 0)
  where
    go : (b : Bool) → FitsShifted (if b then record { value = v; carry = carry } else shifted_by kind v n)
    go true = record { value = h; carry = hc }
    go false = shifted-fits kind v n h

choice : (b : Bool) (x y : Shifted) → FitsShifted x → FitsShifted y → FitsShifted (if b then x else y)
choice true x y hx hy = hx
choice false x y hx hy = hy

pub by_amount-fits : (kind : ShiftKind) (v n carry : ℕ) → v < 2 ^ 32 → carry ≤ 1 → FitsShifted (shifted_by_amount kind v n carry)
unfolding shifted_by_amount
by_amount-fits Lsl v n carry h hc = choice (n == 0) (record { value = v; carry = carry }) (shifted_by Lsl v n) (record { value = h; carry = hc }) (shifted-fits Lsl v n h)
by_amount-fits Lsr v n carry h hc = choice (n == 0) (shifted_by Lsr v 32) (shifted_by Lsr v n) (shifted-fits Lsr v 32 h) (shifted-fits Lsr v n h)
by_amount-fits Asr v n carry h hc = choice (n == 0) (shifted_by Asr v 32) (shifted_by Asr v n) (shifted-fits Asr v 32 h) (shifted-fits Asr v n h)
by_amount-fits Ror v n carry h hc =
    choice (n == 0) (record { value = carry * 2 ^ 31 + v / 2; carry = v % 2 }) (shifted_by Ror v n) (record { value = omega arith; carry = omega arith }) (shifted-fits Ror v n h)

pub operand-fits : (r byte : ℕ) → r < 16 → byte < 256 → operand r byte < 2 ^ 32
operand-fits r byte hr hb = rotated-fits byte (2 * r) (omega arith) (omega arith)

pub immediate-fits : (r byte carry : ℕ) → r < 16 → byte < 256 → carry ≤ 1 → FitsShifted (immediate_operand r byte carry)
unfolding immediate_operand
immediate-fits r byte carry hr hb hc = record { value = operand-fits r byte hr hb; carry = go (r == 0) }
  where
    go : (b : Bool) → (if b then carry else bit (operand r byte) 31) ≤ 1
    go true = hc
    go false = omega arith

flag-le : (b : Bool) → flag b ≤ 1
flag-le true = omega arith
flag-le false = omega arith

sum-fits : (a b carry : ℕ) → a < 2 ^ 32 → b < 2 ^ 32 → carry ≤ 1 → FitsComputed (sum_with a b carry)
unfolding sum_with
sum-fits a b carry ha hb hc = record { value = mod-lt (a + b + carry) (omega arith); carry = omega arith; overflow = flag-le _ }

inverted-fits : (v : ℕ) → inverted v < 2 ^ 32
inverted-fits v = omega arith

logical : (v carry status : ℕ) → v < 2 ^ 32 → carry ≤ 1 → FitsComputed (record { value = v; carry = carry; overflow = overflow_in status })
logical v carry status h hc = record { value = h; carry = hc; overflow = omega arith }

pub computed-fits : (o : Operation) (a b carry status : ℕ) → a < 2 ^ 32 → b < 2 ^ 32 → carry ≤ 1 → FitsComputed (computed o a b carry status)
unfolding computed
computed-fits And a b carry status ha hb hc = logical (bit_and a b) carry status (and_lt 32 a b ha hb) hc
computed-fits Eor a b carry status ha hb hc = logical (bit_xor a b) carry status (xor_lt 32 a b ha hb) hc
computed-fits Sub a b carry status ha hb hc = sum-fits a (inverted b) 1 ha (inverted-fits b) (omega arith)
computed-fits Rsb a b carry status ha hb hc = sum-fits b (inverted a) 1 hb (inverted-fits a) (omega arith)
computed-fits Add a b carry status ha hb hc = sum-fits a b 0 ha hb (omega arith)
computed-fits Adc a b carry status ha hb hc = sum-fits a b (carry_in status) ha hb (carry-le status)
computed-fits Sbc a b carry status ha hb hc = sum-fits a (inverted b) (carry_in status) ha (inverted-fits b) (carry-le status)
computed-fits Rsc a b carry status ha hb hc = sum-fits b (inverted a) (carry_in status) hb (inverted-fits a) (carry-le status)
computed-fits Tst a b carry status ha hb hc = logical (bit_and a b) carry status (and_lt 32 a b ha hb) hc
computed-fits Teq a b carry status ha hb hc = logical (bit_xor a b) carry status (xor_lt 32 a b ha hb) hc
computed-fits Cmp a b carry status ha hb hc = sum-fits a (inverted b) 1 ha (inverted-fits b) (omega arith)
computed-fits Cmn a b carry status ha hb hc = sum-fits a b 0 ha hb (omega arith)
computed-fits Orr a b carry status ha hb hc = logical (bit_or a b) carry status (or_lt 32 a b ha hb) hc
computed-fits Mov a b carry status ha hb hc = logical b carry status hb hc
computed-fits Bic a b carry status ha hb hc = logical (bit_and a (inverted b)) carry status (and_lt 32 a (inverted b) ha (inverted-fits b)) hc
computed-fits Mvn a b carry status ha hb hc = logical (inverted b) carry status (inverted-fits b) hc
