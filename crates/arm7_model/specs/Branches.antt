-- Branches, exchanges of state and the host's software interrupts (ARM Architecture Reference Manual: B,
-- BL, BX, SWI; that 0x00, 0x02 and 0x11 are the host's is this project's).
use Rattle.std.specs.Prelude.{ℕ, ◌+◌, ◌-◌, ◌*◌, ◌/◌, ◌%◌, ◌^◌, ◌==◌, Bool, ◌||◌, if◌then◌else◌}
use Rattle.sdt_word.specs.Numbers.{sign_extended}
use Rattle.arm7_model.specs.declared.state.ArmState.{ArmState}
use Rattle.arm7_model.specs.declared.event.Exception.TheVariants as exception
use Rattle.arm7_model.specs.Registers.{register, with_register, with_pc, operand_at}
use Rattle.arm7_model.specs.Accesses.{Working}
use Rattle.arm7_model.specs.Outcomes.{Stepped, hosted, raised}

-- the status register with this bit T
unfoldable pub status_with_thumb : ℕ → ℕ → ℕ
status_with_thumb t status = status / 2 ^ 6 * 2 ^ 6 + t * 2 ^ 5 + status % 2 ^ 5

-- bit 0 of the target is the state, and the target is an address of that state
unfoldable pub exchanged : ℕ → ArmState → ArmState
exchanged v s = with_pc (record s { cpsr = status_with_thumb (v % 2) s.cpsr }) v

-- a target of these signed units of a size from pc
unfoldable pub branch_target : ℕ → ℕ → ℕ → ArmState → ℕ
branch_target size width d s = (operand_at s 15 + size * sign_extended d width) % 2 ^ 32

unfoldable pub branched : Bool → ℕ → ArmState → ArmState
branched link d s =
    if link then with_register (with_register s 14 (register s 15)) 15 (branch_target 4 24 d s)
    else with_register s 15 (branch_target 4 24 d s)

-- Thumb's BL in two halves: lr is a base, then pc is what lies 2 i above it, with bit 0 cleared
unfoldable pub linked_first : ℕ → ArmState → ArmState
linked_first i s = with_register s 14 ((operand_at s 15 + 4096 * sign_extended i 11) % 2 ^ 32)

unfoldable pub linked_second : ℕ → ArmState → ArmState
linked_second i s =
    with_pc (with_register s 14 (register s 15 - register s 15 % 2 + 1)) ((register s 14 + 2 * i) % 2 ^ 32)

unfoldable pub is_host : ℕ → Bool
is_host n = n == 0x00 || n == 0x02 || n == 0x11

unfoldable pub interrupted : ℕ → Working → Stepped
interrupted n w = if is_host n then hosted n w else raised exception.SoftwareInterrupt w
