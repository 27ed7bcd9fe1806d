-- Arithmetic of the processor: the shifter, sums with their flags, and conditions
-- (ARM Architecture Reference Manual, addressing mode 1, condition codes, data processing).
use Rattle.std.specs.Prelude.{ℕ, ◌+◌, ◌-◌, ◌*◌, ◌/◌, ◌%◌, ◌^◌, ◌==◌, Bool, true, false, not, ◌&&◌, ◌||◌, min, if◌then◌else◌, bit_and, bit_or, bit_xor}
use Rattle.sdt_word.specs.Numbers.{bit, flag, rotated, operand}
use Rattle.sdt_word.specs.declared.codes.Condition.{Condition}
use Rattle.sdt_word.specs.declared.codes.Condition.TheVariants.{Eq, Ne, Cs, Cc, Mi, Pl, Vs, Vc, Hi, Ls, Ge, Lt, Gt, Le, Al}
use Rattle.sdt_word.specs.declared.codes.ShiftKind.{ShiftKind}
use Rattle.sdt_word.specs.declared.codes.ShiftKind.TheVariants.{Lsl, Lsr, Asr, Ror}
use Rattle.arm_isa.specs.declared.instr.Operation.{Operation}
use Rattle.arm_isa.specs.declared.instr.Operation.TheVariants.{And, Eor, Sub, Rsb, Add, Adc, Sbc, Rsc, Tst, Teq, Cmp, Cmn, Orr, Mov, Bic, Mvn}

-- ---- flags: N, Z, C and V are bits 31 to 28 of CPSR

abbrev pub zero_of : ℕ → ℕ
zero_of v = if v == 0 then 1 else 0

-- CPSR with the flags of a result, a carry and an overflow
unfoldable pub with_flags : ℕ → ℕ → ℕ → ℕ → ℕ
with_flags status v carry overflow =
    bit v 31 * 2 ^ 31 + zero_of v * 2 ^ 30 + carry * 2 ^ 29 + overflow * 2 ^ 28 + status % 2 ^ 28

abbrev pub carry_in : ℕ → ℕ
carry_in status = bit status 29

abbrev pub overflow_in : ℕ → ℕ
overflow_in status = bit status 28

-- the condition holds of CPSR's flags
unfoldable pub passes : Condition → ℕ → Bool
passes Eq status = bit status 30 == 1
passes Ne status = bit status 30 == 0
passes Cs status = bit status 29 == 1
passes Cc status = bit status 29 == 0
passes Mi status = bit status 31 == 1
passes Pl status = bit status 31 == 0
passes Vs status = bit status 28 == 1
passes Vc status = bit status 28 == 0
passes Hi status = bit status 29 == 1 && bit status 30 == 0
passes Ls status = bit status 29 == 0 || bit status 30 == 1
passes Ge status = bit status 31 == bit status 28
passes Lt status = not (bit status 31 == bit status 28)
passes Gt status = bit status 30 == 0 && bit status 31 == bit status 28
passes Le status = bit status 30 == 1 || not (bit status 31 == bit status 28)
passes Al status = true

-- ---- the shifter

-- an operand and the carry that the shifter gives
pub record Shifted : Type 0 where
  pub value : ℕ
  pub carry : ℕ

-- a word with its sign carried on to 64 bits
abbrev pub as_64_bits : ℕ → ℕ
as_64_bits v = v + bit v 31 * (2 ^ 64 - 2 ^ 32)

-- the word v shifted by an amount other than 0
abbrev pub shifted_by : ShiftKind → ℕ → ℕ → Shifted
-- left: zeros come in, and the carry is the last bit that goes out (none by more than 32)
shifted_by Lsl v n = record { value = v * 2 ^ n % 2 ^ 32; carry = v * 2 ^ n / 2 ^ 32 % 2 }
-- right: zeros come in
shifted_by Lsr v n = record { value = v / 2 ^ n; carry = v / 2 ^ (n - 1) % 2 }
-- right: the sign comes in; by 32 or more the sign is everywhere
shifted_by Asr v n = record { value = as_64_bits v / 2 ^ min n 32 % 2 ^ 32; carry = as_64_bits v / 2 ^ (min n 32 - 1) % 2 }
-- round to the right, by the amount modulo 32; the carry is the bit that comes in at the top
shifted_by Ror v n = record { value = rotated v (n % 32); carry = bit (rotated v (n % 32)) 31 }

-- shifted by the low byte of a register: by 0 the operand and the carry stay
unfoldable pub shifted_by_register : ShiftKind → ℕ → ℕ → ℕ → Shifted
shifted_by_register kind v n carry =
    if n == 0 then record { value = v; carry = carry } else shifted_by kind v n

-- shifted by the amount in an instruction: LSR and ASR by 0 stand for 32, and ROR by 0 for a rotation by
-- one place through the carry
unfoldable pub shifted_by_amount : ShiftKind → ℕ → ℕ → ℕ → Shifted
shifted_by_amount Lsl v n carry = if n == 0 then record { value = v; carry = carry } else shifted_by Lsl v n
shifted_by_amount Lsr v n carry = if n == 0 then shifted_by Lsr v 32 else shifted_by Lsr v n
shifted_by_amount Asr v n carry = if n == 0 then shifted_by Asr v 32 else shifted_by Asr v n
shifted_by_amount Ror v n carry =
    if n == 0 then record { value = carry * 2 ^ 31 + v / 2; carry = v % 2 } else shifted_by Ror v n

-- an immediate operand: a byte rotated right by twice r
unfoldable pub immediate_operand : ℕ → ℕ → ℕ → Shifted
immediate_operand r byte carry =
    record { value = operand r byte; carry = (if r == 0 then carry else bit (operand r byte) 31) }

-- ---- operations

-- a result with its carry and overflow
pub record Computed : Type 0 where
  pub value : ℕ
  pub carry : ℕ
  pub overflow : ℕ

-- the word with each bit turned
abbrev pub inverted : ℕ → ℕ
inverted v = 2 ^ 32 - 1 - v

-- a + b + carry: the carry out, and signed overflow where the operands have one sign and the sum the other
unfoldable pub sum_with : ℕ → ℕ → ℕ → Computed
sum_with a b carry = record {
  value = (a + b + carry) % 2 ^ 32;
  carry = (a + b + carry) / 2 ^ 32;
  overflow = flag (bit a 31 == bit b 31 && not (bit ((a + b + carry) % 2 ^ 32) 31 == bit a 31));
}

-- a - b: the carry is "no borrow"
abbrev pub difference : ℕ → ℕ → Computed
difference a b = sum_with a (inverted b) 1

-- the operation on two operands, with the shifter's carry and the status register before it
unfoldable pub computed : Operation → ℕ → ℕ → ℕ → ℕ → Computed
computed And a b carry status = record { value = bit_and a b; carry = carry; overflow = overflow_in status }
computed Eor a b carry status = record { value = bit_xor a b; carry = carry; overflow = overflow_in status }
computed Sub a b carry status = difference a b
computed Rsb a b carry status = difference b a
computed Add a b carry status = sum_with a b 0
computed Adc a b carry status = sum_with a b (carry_in status)
computed Sbc a b carry status = sum_with a (inverted b) (carry_in status)
computed Rsc a b carry status = sum_with b (inverted a) (carry_in status)
computed Tst a b carry status = record { value = bit_and a b; carry = carry; overflow = overflow_in status }
computed Teq a b carry status = record { value = bit_xor a b; carry = carry; overflow = overflow_in status }
computed Cmp a b carry status = difference a b
computed Cmn a b carry status = sum_with a b 0
computed Orr a b carry status = record { value = bit_or a b; carry = carry; overflow = overflow_in status }
computed Mov a b carry status = record { value = b; carry = carry; overflow = overflow_in status }
computed Bic a b carry status = record { value = bit_and a (inverted b); carry = carry; overflow = overflow_in status }
computed Mvn a b carry status = record { value = inverted b; carry = carry; overflow = overflow_in status }

-- TST, TEQ, CMP and CMN set flags alone
abbrev pub is_comparison : Operation → Bool
is_comparison Tst = true
is_comparison Teq = true
is_comparison Cmp = true
is_comparison Cmn = true
is_comparison _ = false
