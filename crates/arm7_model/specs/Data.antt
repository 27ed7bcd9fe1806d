-- Data processing, multiplies and status registers (ARM Architecture Reference Manual: data-processing
-- instructions, multiplies, MRS and MSR). These touch registers alone.
use Rattle.std.specs.Prelude.{ℕ, ◌+◌, ◌*◌, ◌/◌, ◌%◌, ◌^◌, ◌==◌, Bool, not, if◌then◌else◌}
use Rattle.sdt_word.specs.Numbers.{bit, bits}
use Rattle.arm_isa.specs.declared.instr.Operation.{Operation}
use Rattle.arm7_model.specs.declared.state.ArmState.{ArmState}
use Rattle.arm7_model.specs.Registers.{with_cpsr, with_result, with_register, with_pc, with_saved, restored, saved, operand_at, register, is_user}
use Rattle.arm7_model.specs.Arithmetic.{Shifted, Computed, computed, with_flags, carry_in, overflow_in, is_comparison, zero_of, as_64_bits}

-- ---- data processing

-- the flags of a result
unfoldable pub flagged : ArmState → Computed → ArmState
flagged s c = record s { cpsr = with_flags s.cpsr c.value c.carry c.overflow }

-- a result is written; with S and pc, CPSR becomes SPSR and pc is cleared by the new state
unfoldable pub completed : Operation → Bool → ℕ → Computed → ArmState → ArmState
completed operation set_flags rd c s =
    if is_comparison operation then flagged s c else
    if not set_flags then with_result s rd c.value else
    if rd == 15 then with_pc (restored s) c.value else with_register (flagged s c) rd c.value

-- the operation on register rn and the shifter's operand
unfoldable pub calculated : Operation → Bool → ℕ → ℕ → Shifted → ArmState → ArmState
calculated operation set_flags rn rd operand s =
    completed operation set_flags rd (computed operation (operand_at s rn) operand.value operand.carry s.cpsr) s

-- ---- multiplies: with S they set N and Z, and keep C and V (this project's)

abbrev pub kept_flags : ArmState → ℕ → ArmState
kept_flags s v = record s { cpsr = with_flags s.cpsr v (carry_in s.cpsr) (overflow_in s.cpsr) }

unfoldable pub multiplied : Bool → Bool → ℕ → ℕ → ℕ → ℕ → ArmState → ArmState
multiplied accumulate set_flags rd rn rs rm s =
    let v = (register s rm * register s rs + (if accumulate then register s rn else 0)) % 2 ^ 32 in
    if set_flags then with_register (kept_flags s v) rd v else with_register s rd v

-- the product of two words as 64 bits, with or without sign
unfoldable pub long_product : Bool → ℕ → ℕ → ℕ
long_product signed a b = if signed then as_64_bits a * as_64_bits b % 2 ^ 64 else a * b

-- N is bit 63, and Z says that all 64 bits are 0
abbrev pub long_flags : ArmState → ℕ → ArmState
long_flags s v = record s {
  cpsr = v / 2 ^ 63 * 2 ^ 31 + zero_of v * 2 ^ 30 + carry_in s.cpsr * 2 ^ 29 + overflow_in s.cpsr * 2 ^ 28 + s.cpsr % 2 ^ 28;
}

unfoldable pub multiplied_long : Bool → Bool → Bool → ℕ → ℕ → ℕ → ℕ → ArmState → ArmState
multiplied_long signed accumulate set_flags high low rs rm s =
    let more = if accumulate then register s high * 2 ^ 32 + register s low else 0 in
    let v = (long_product signed (register s rm) (register s rs) + more) % 2 ^ 64 in
    let flags = if set_flags then long_flags s v else s in
    with_register (with_register flags low (v % 2 ^ 32)) high (v / 2 ^ 32)

-- ---- status registers

-- the value of a field mask's bit
abbrev pub names : ℕ → ℕ → Bool
names fields k = bit fields k == 1

-- a status register with the named bytes of v: of the fields f, s, x and c, bits 3 to 0, f has the flags
-- and c the low byte; bits 27 to 8 read 0
unfoldable pub status_with : ℕ → ℕ → ℕ → ℕ
status_with fields v old =
    (if names fields 3 then bits v 28 4 else bits old 28 4) * 2 ^ 28 + (if names fields 0 then v % 256 else old % 256)

-- in user mode only the flags are written
unfoldable pub status_fields : ArmState → ℕ → ℕ
status_fields s fields = if is_user s.cpsr then bits fields 3 1 * 8 else fields

-- CPSR as MSR would leave it
unfoldable pub status_after : ArmState → ℕ → ℕ → ℕ
status_after s fields v = status_with (status_fields s fields) v s.cpsr

unfoldable pub read_status : Bool → ℕ → ArmState → ArmState
read_status of_saved rd s = with_register s rd (if of_saved then saved s else s.cpsr)

unfoldable pub written_status : Bool → ℕ → ℕ → ArmState → ArmState
written_status to_saved fields v s =
    if to_saved then with_saved s (status_with fields v (saved s)) else with_cpsr s (status_after s fields v)
