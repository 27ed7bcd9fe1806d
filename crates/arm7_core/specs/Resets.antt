-- The registers after reset (ARM Architecture Reference Manual, reset: supervisor mode, ARM state, I and F set; that all
-- other registers are 0, that the address is told, and that a run may begin in Thumb state, where bit 5 of the status is
-- set as an entry by BX sets it, are this project's).
use Rattle.std.specs.Prelude.{◌≡◌, ℕ, ◌≢◌, Bool, if◌then◌else◌, slice_index}
use Rattle.arm7_model.specs.declared.state.ArmState.{ArmState}
use Rattle.arm7_model.specs.Registers.{IsValid, register}

-- supervisor mode, I and F set, in Thumb or in ARM state
abbrev pub reset_status : Bool → ℕ
reset_status thumb = if thumb then 0xF3 else 0xD3

-- that status, pc at the address, and all other registers 0
pub record IsReset (pc : ℕ) (thumb : Bool) (s : ArmState) : Type 0 where
  pub status : s.cpsr ≡ reset_status thumb
  pub address : register s 15 ≡ pc
  pub others : (k : ℕ) → k ≢ 15 → register s k ≡ 0
  pub high : (k : ℕ) → slice_index s.banks.high k ≡ 0
  pub r13 : (k : ℕ) → slice_index s.banks.r13 k ≡ 0
  pub r14 : (k : ℕ) → slice_index s.banks.r14 k ≡ 0
  pub saved : (k : ℕ) → slice_index s.spsr k ≡ 0
  pub valid : IsValid s
