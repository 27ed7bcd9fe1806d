-- The registers: modes, banks, status registers, and what it is to read and write a register
-- (ARM Architecture Reference Manual, programmer's model). While an instruction runs, r15 of the state
-- is the address of the next one.
use Rattle.std.specs.Prelude.{◌≡◌, ℕ, ◌+◌, ◌-◌, ◌%◌, ◌^◌, ◌<◌, ◌==◌, Bool, true, nat_lt, if◌then◌else◌, List, ◌++◌, take, drop, length, Option, Some, None, unwrap_or, is_some, slice_index, slice_set}
use Rattle.sdt_word.specs.Numbers.{bit, bits}
use Rattle.arm7_model.specs.declared.state.ArmState.{ArmState}
use Rattle.arm7_model.specs.declared.state.Mode.{Mode}
use Rattle.arm7_model.specs.declared.state.Mode.TheVariants as mode
use Rattle.arm7_model.specs.Memory.{Bytes}

-- what a step acts on: the processor's registers, and the memory
pub record State : Type 0 where
  pub core : ArmState
  pub memory : Bytes

-- ---- modes

-- the number of a mode in the low five bits of a status register
abbrev pub mode_number : Mode → ℕ
mode_number mode.User = 0x10
mode_number mode.Fiq = 0x11
mode_number mode.Irq = 0x12
mode_number mode.Supervisor = 0x13
mode_number mode.Abort = 0x17
mode_number mode.Undefined = 0x1B
mode_number mode.System = 0x1F

-- the mode of a number, none where the number isn't a mode's
unfoldable pub mode_named : ℕ → Option Mode
mode_named n =
    if n == 0x10 then Some mode.User else
    if n == 0x11 then Some mode.Fiq else
    if n == 0x12 then Some mode.Irq else
    if n == 0x13 then Some mode.Supervisor else
    if n == 0x17 then Some mode.Abort else
    if n == 0x1B then Some mode.Undefined else
    if n == 0x1F then Some mode.System else None

-- the place of a mode's r13 and r14 in the banks
abbrev pub bank : Mode → ℕ
bank mode.User = 0
bank mode.Fiq = 1
bank mode.Irq = 2
bank mode.Supervisor = 3
bank mode.Abort = 4
bank mode.Undefined = 5
bank mode.System = 0

-- a status register: its mode, whether that is one of the modes, and its bit T
unfoldable pub mode_in : ℕ → Mode
mode_in status = unwrap_or (mode_named (bits status 0 5)) mode.System

unfoldable pub has_mode : ℕ → Bool
has_mode status = is_some (mode_named (bits status 0 5))

unfoldable pub is_thumb : ℕ → Bool
is_thumb status = bit status 5 == 1

unfoldable pub is_user : ℕ → Bool
is_user status = bits status 0 5 == 0x10

-- the place of the visible r13 and r14
unfoldable pub bank_in : ℕ → ℕ
bank_in status = bank (mode_in status)

-- the mode has an SPSR: it is neither user nor system mode
unfoldable pub has_saved : ArmState → Bool
has_saved s = nat_lt 0 (bank_in s.cpsr)

-- ---- registers

unfoldable pub register : ArmState → ℕ → ℕ
register s k = slice_index s.r k

unfoldable pub with_register : ArmState → ℕ → ℕ → ArmState
with_register s k v = record s { r = slice_set s.r k v }

-- an address with its low bits cleared as a write to pc clears them: one bit in Thumb state, else two
unfoldable pub as_pc : ℕ → ℕ → ℕ
as_pc status v = if is_thumb status then v - v % 2 else v - v % 4

unfoldable pub with_pc : ArmState → ℕ → ArmState
with_pc s v = with_register s 15 (as_pc s.cpsr v)

-- a result is written; in pc it is an address
unfoldable pub with_result : ArmState → ℕ → ℕ → ArmState
with_result s k v = if k == 15 then with_pc s v else with_register s k v

-- a register as an operand: pc reads as the instruction's address and 8, in Thumb state 4
unfoldable pub operand_at : ArmState → ℕ → ℕ
operand_at s k =
    if k == 15 then (register s 15 + (if is_thumb s.cpsr then 2 else 4)) % 2 ^ 32 else register s k

-- a register as STR and STM store it: pc as the instruction's address and 12 (this project's)
unfoldable pub stored_at : ArmState → ℕ → ℕ
stored_at s k = if k == 15 then (register s 15 + 8) % 2 ^ 32 else register s k

-- ---- the banks

-- r8 to r12 change places with the banked ones
unfoldable pub with_other_high : ArmState → ArmState
with_other_high s = record s {
  r = take 8 s.r ++ (s.banks.high ++ drop 13 s.r);
  banks = record s.banks { high = take 5 (drop 8 s.r) };
}

-- they do so where one of the two modes is FIQ mode
unfoldable pub with_high : ℕ → ℕ → ArmState → ArmState
with_high from to s =
    if from == 1 then (if to == 1 then s else with_other_high s) else (if to == 1 then with_other_high s else s)

-- the visible r13 or r14 goes into its bank, and the other mode's comes out, leaving 0
abbrev pub bank_after : ℕ → ℕ → ℕ → List ℕ → List ℕ
bank_after from to visible banked = slice_set (slice_set banked from visible) to 0

abbrev pub visible_after : ℕ → ℕ → ℕ → List ℕ → ℕ
visible_after from to visible banked = slice_index (slice_set banked from visible) to

unfoldable pub with_pair : ℕ → ℕ → ArmState → ArmState
with_pair from to s = record s {
  r = slice_set (slice_set s.r 13 (visible_after from to (slice_index s.r 13) s.banks.r13)) 14 (visible_after from to (slice_index s.r 14) s.banks.r14);
  banks = record s.banks {
    r13 = bank_after from to (slice_index s.r 13) s.banks.r13;
    r14 = bank_after from to (slice_index s.r 14) s.banks.r14;
  };
}

-- CPSR is written: the registers of its mode become the visible ones
unfoldable pub with_cpsr : ArmState → ℕ → ArmState
with_cpsr s status =
    record (with_pair (bank_in s.cpsr) (bank_in status) (with_high (bank_in s.cpsr) (bank_in status) s)) { cpsr = status }

-- ---- the SPSR of the mode

unfoldable pub saved : ArmState → ℕ
saved s = slice_index s.spsr (bank_in s.cpsr - 1)

unfoldable pub with_saved : ArmState → ℕ → ArmState
with_saved s status = record s { spsr = slice_set s.spsr (bank_in s.cpsr - 1) status }

-- CPSR becomes SPSR
unfoldable pub restored : ArmState → ArmState
restored s = with_cpsr s (saved s)

-- ---- user mode's registers, as LDM and STM with ^ name them, in a mode with an SPSR

unfoldable pub user_register : ArmState → ℕ → ℕ
user_register s k =
    if k == 13 then slice_index s.banks.r13 0 else
    if k == 14 then slice_index s.banks.r14 0 else
    if nat_lt k 8 then stored_at s k else
    if k == 15 then stored_at s k else
    if bank_in s.cpsr == 1 then slice_index s.banks.high (k - 8) else register s k

unfoldable pub with_user_register : ArmState → ℕ → ℕ → ArmState
with_user_register s k v =
    if k == 13 then record s { banks = record s.banks { r13 = slice_set s.banks.r13 0 v } } else
    if k == 14 then record s { banks = record s.banks { r14 = slice_set s.banks.r14 0 v } } else
    if nat_lt k 8 then with_register s k v else
    if bank_in s.cpsr == 1 then record s { banks = record s.banks { high = slice_set s.banks.high (k - 8) v } } else with_register s k v

-- ---- validity

-- a list of n words
pub record AreWords (n : ℕ) (xs : List ℕ) : Type 0 where
  pub count : length xs ≡ n
  pub each : (k : ℕ) → slice_index xs k < 2 ^ 32

-- a word whose bits 27 to 8 are 0
pub record IsStatus (status : ℕ) : Type 0 where
  pub is_word : status < 2 ^ 32
  pub reserved : bits status 8 20 ≡ 0

-- 0 stands in the place of the visible r13 and r14
pub record IsValid (s : ArmState) : Type 0 where
  pub visible : AreWords 16 s.r
  pub high : AreWords 5 s.banks.high
  pub r13 : AreWords 6 s.banks.r13
  pub r14 : AreWords 6 s.banks.r14
  pub no_r13 : slice_index s.banks.r13 (bank_in s.cpsr) ≡ 0
  pub no_r14 : slice_index s.banks.r14 (bank_in s.cpsr) ≡ 0
  pub mode : has_mode s.cpsr ≡ true
  pub status : IsStatus s.cpsr
  pub saved_count : length s.spsr ≡ 5
  pub saved_status : (k : ℕ) → IsStatus (slice_index s.spsr k)
  pub even : is_thumb s.cpsr ≡ true → slice_index s.r 15 % 2 ≡ 0

-- the registers are valid, and memory holds bytes
pub record IsValidState (s : State) : Type 0 where
  pub core : IsValid s.core
  pub memory : (a : ℕ) → s.memory a < 256
