-- The instructions of ARM state: when they are unpredictable, and what they do
-- (ARM Architecture Reference Manual, ARM instructions; the list of unpredictable cases is this
-- project's). The registers are those before the instruction, with pc already at the next one.
use Rattle.std.specs.Prelude.{ℕ, ◌+◌, ◌*◌, ◌%◌, ◌^◌, ◌==◌, Bool, true, false, ◌&&◌, ◌||◌, not, if◌then◌else◌}
use Rattle.sdt_word.specs.Numbers.{bit, bits, operand}
use Rattle.sdt_word.specs.declared.codes.Condition.{Condition}
use Rattle.sdt_word.specs.declared.codes.ShiftKind.{ShiftKind}
use Rattle.sdt_word.specs.declared.codes.Width.{Width}
use Rattle.sdt_word.specs.declared.codes.Width.TheVariants as width
use Rattle.arm_isa.specs.declared.instr.ArmInstr.{ArmInstr}
use Rattle.arm_isa.specs.declared.instr.ArmInstr.TheVariants.{DataImmediate, DataShifted, DataRegisterShifted, Multiply, MultiplyLong, Swap, BranchExchange, ReadStatus, WriteStatus, WriteStatusImmediate, TransferImmediate, TransferShifted, TransferHalf, TransferBlock, Branch, SoftwareInterrupt, Undefined}
use Rattle.arm_isa.specs.declared.instr.HalfKind.{HalfKind}
use Rattle.arm_isa.specs.declared.instr.HalfKind.TheVariants as half
use Rattle.arm_isa.specs.declared.instr.Operation.{Operation}
use Rattle.arm7_model.specs.declared.state.ArmState.{ArmState}
use Rattle.arm7_model.specs.declared.event.Exception.TheVariants as exception
use Rattle.arm7_model.specs.Registers.{register, operand_at, has_saved, has_mode, saved}
use Rattle.arm7_model.specs.Arithmetic.{passes, carry_in, is_comparison, shifted_by_amount, shifted_by_register, immediate_operand, Shifted}
use Rattle.arm7_model.specs.Accesses.{Working}
use Rattle.arm7_model.specs.Outcomes.{Stepped, Under, ran, raised, given_back}
use Rattle.arm7_model.specs.Data.{calculated, multiplied, multiplied_long, read_status, written_status, status_after}
use Rattle.arm7_model.specs.Transfers.{transferred, swapped, transfer_address, writes_back}
use Rattle.arm7_model.specs.Blocks.{block_moved, lists}
use Rattle.arm7_model.specs.Branches.{branched, exchanged, interrupted}

unfoldable pub arm_condition : ArmInstr → Condition
arm_condition (DataImmediate c o s n d r i) = c
arm_condition (DataShifted c o s n d a t m) = c
arm_condition (DataRegisterShifted c o s n d rs t m) = c
arm_condition (Multiply c a s d n rs m) = c
arm_condition (MultiplyLong c g a s h l rs m) = c
arm_condition (Swap c b n d m) = c
arm_condition (BranchExchange c m) = c
arm_condition (ReadStatus c p d) = c
arm_condition (WriteStatus c p f m) = c
arm_condition (WriteStatusImmediate c p f r i) = c
arm_condition (TransferImmediate c p u b w l n d v) = c
arm_condition (TransferShifted c p u b w l n d a t m) = c
arm_condition (TransferHalf c p u e w l n d h y k) = c
arm_condition (TransferBlock c p u s w l n r) = c
arm_condition (Branch c l d) = c
arm_condition (SoftwareInterrupt c n) = c
arm_condition (Undefined c u) = c

-- ---- operands

-- register rm shifted by the amount in the instruction
unfoldable pub shifted_operand : ShiftKind → ℕ → ℕ → ArmState → Shifted
shifted_operand kind amount rm s = shifted_by_amount kind (operand_at s rm) amount (carry_in s.cpsr)

-- register rm shifted by the low byte of register rs
unfoldable pub register_shifted_operand : ShiftKind → ℕ → ℕ → ArmState → Shifted
register_shifted_operand kind rs rm s = shifted_by_register kind (register s rm) (register s rs % 256) (carry_in s.cpsr)

abbrev pub byte_width : Bool → Width
byte_width true = width.Byte
byte_width false = width.Word

abbrev pub half_width : HalfKind → Width
half_width half.Half = width.Half
half_width half.SignedByte = width.Byte
half_width half.SignedHalf = width.Half

abbrev pub half_signed : HalfKind → Bool
half_signed half.Half = false
half_signed half.SignedByte = true
half_signed half.SignedHalf = true

-- an offset in two parts, or a register
unfoldable pub half_offset : Bool → ℕ → ℕ → ArmState → ℕ
half_offset immediate high low s = if immediate then 16 * high + low else register s low

-- ---- unpredictable cases

abbrev pub is_pc : ℕ → Bool
is_pc k = k == 15

-- with S and pc, in a mode without SPSR, or with an SPSR whose mode isn't one of the modes
unfoldable pub bad_return : Operation → Bool → ℕ → ArmState → Bool
bad_return operation set_flags rd s =
    set_flags && (is_pc rd && (not (is_comparison operation) && (not (has_saved s) || not (has_mode (saved s)))))

-- CPSR would change its bit T, or its mode wouldn't be one of the modes
unfoldable pub bad_status : ℕ → ArmState → Bool
bad_status status s = not (bit status 5 == bit s.cpsr 5) || not (has_mode status)

-- an MSR of SPSR in a mode without one, or of CPSR to a bad value
unfoldable pub bad_write : Bool → ℕ → ℕ → ArmState → Bool
bad_write to_saved fields v s = if to_saved then not (has_saved s) else bad_status (status_after s fields v) s

-- a base that is written back is neither pc nor, for a load, the loaded register
unfoldable pub bad_base : Bool → Bool → Bool → ℕ → ℕ → Bool
bad_base pre write_back load rn rd = writes_back pre write_back && (is_pc rn || (load && rn == rd))

-- an offset register is neither pc nor a base that is written back
unfoldable pub bad_offset : Bool → Bool → ℕ → ℕ → Bool
bad_offset pre write_back rn rm = is_pc rm || (writes_back pre write_back && rm == rn)

-- a byte in pc, or a load of pc from an address that isn't a multiple of 4
unfoldable pub bad_pc : Bool → Bool → ℕ → ℕ → Bool
bad_pc byte load rd a = is_pc rd && (byte || (load && not (a % 4 == 0)))

unfoldable pub transfer_at : Bool → Bool → ℕ → ℕ → ArmState → ℕ
transfer_at pre up rn offset s = transfer_address pre up (operand_at s rn) offset

-- a half-word at an odd address
unfoldable pub bad_half : HalfKind → ℕ → Bool
bad_half half.SignedByte a = false
bad_half _ a = not (a % 2 == 0)

-- no listed register lies below k
abbrev pub is_lowest : ℕ → ℕ → Bool
is_lowest list k = list % 2 ^ k == 0

-- the base is in the list: of a load with write back, or of a store with write back not as the lowest
unfoldable pub bad_block_base : Bool → Bool → ℕ → ℕ → Bool
bad_block_base write_back load rn list =
    write_back && (lists list rn && (load || not (is_lowest list rn)))

-- ^ in a mode without SPSR, with write back where it is no load of pc, or as a return to no mode
unfoldable pub bad_user : Bool → Bool → Bool → ℕ → ArmState → Bool
bad_user user write_back load list s =
    user && (not (has_saved s) || (if load && lists list 15 then not (has_mode (saved s)) else write_back))

unfoldable pub arm_unpredictable : ArmInstr → ArmState → Bool
arm_unpredictable (DataImmediate c o s n d r i) core = bad_return o s d core
arm_unpredictable (DataShifted c o s n d a t m) core = bad_return o s d core
arm_unpredictable (DataRegisterShifted c o s n d rs t m) core =
    bad_return o s d core || (is_pc d || (is_pc n || (is_pc m || is_pc rs)))
arm_unpredictable (Multiply c a s d n rs m) core =
    d == m || (is_pc d || (is_pc rs || (is_pc m || (a && is_pc n))))
arm_unpredictable (MultiplyLong c g a s h l rs m) core =
    h == l || (h == m || (l == m || (is_pc h || (is_pc l || (is_pc rs || is_pc m)))))
arm_unpredictable (Swap c b n d m) core = is_pc n || (is_pc d || (is_pc m || (n == m || n == d)))
arm_unpredictable (BranchExchange c m) core = operand_at core m % 4 == 2
arm_unpredictable (ReadStatus c p d) core = is_pc d || (p && not (has_saved core))
arm_unpredictable (WriteStatus c p f m) core = is_pc m || bad_write p f (register core m) core
arm_unpredictable (WriteStatusImmediate c p f r i) core = bad_write p f (operand r i) core
arm_unpredictable (TransferImmediate c p u b w l n d v) core =
    bad_base p w l n d || bad_pc b l d (transfer_at p u n v core)
arm_unpredictable (TransferShifted c p u b w l n d a t m) core =
    bad_base p w l n d || (bad_offset p w n m
    || bad_pc b l d (transfer_at p u n (shifted_operand t a m core).value core))
arm_unpredictable (TransferHalf c p u e w l n d h y k) core =
    is_pc d || (bad_base p w l n d || ((not e && bad_offset p w n k)
    || bad_half y (transfer_at p u n (half_offset e h k core) core)))
arm_unpredictable (TransferBlock c p u s w l n r) core =
    r == 0 || (is_pc n || (bad_block_base w l n r || bad_user s w l r core))
arm_unpredictable (Branch c l d) core = false
arm_unpredictable (SoftwareInterrupt c n) core = false
arm_unpredictable (Undefined c u) core = false

-- ---- effects

abbrev pub on_core : (ArmState → ArmState) → Working → Stepped
on_core f w = ran (record w { core = f w.core })

unfoldable pub arm_effect : Under → ArmInstr → Working → Stepped
arm_effect u (DataImmediate c o s n d r i) w =
    on_core (calculated o s n d (immediate_operand r i (carry_in w.core.cpsr))) w
arm_effect u (DataShifted c o s n d a t m) w =
    on_core (calculated o s n d (shifted_operand t a m w.core)) w
arm_effect u (DataRegisterShifted c o s n d rs t m) w =
    on_core (calculated o s n d (register_shifted_operand t rs m w.core)) w
arm_effect u (Multiply c a s d n rs m) w = on_core (multiplied a s d n rs m) w
arm_effect u (MultiplyLong c g a s h l rs m) w = on_core (multiplied_long g a s h l rs m) w
arm_effect u (Swap c b n d m) w = swapped u (byte_width b) n d m w
arm_effect u (BranchExchange c m) w = on_core (exchanged (operand_at w.core m)) w
arm_effect u (ReadStatus c p d) w = on_core (read_status p d) w
arm_effect u (WriteStatus c p f m) w = on_core (written_status p f (register w.core m)) w
arm_effect u (WriteStatusImmediate c p f r i) w = on_core (written_status p f (operand r i)) w
arm_effect u (TransferImmediate c p up b wb l n d v) w =
    transferred u l false p up wb (byte_width b) n d v w
arm_effect u (TransferShifted c p up b wb l n d a t m) w =
    transferred u l false p up wb (byte_width b) n d (shifted_operand t a m w.core).value w
arm_effect u (TransferHalf c p up e wb l n d h y k) w =
    transferred u l (half_signed y) p up wb (half_width y) n d (half_offset e h k w.core) w
arm_effect u (TransferBlock c p up s wb l n r) w = block_moved u false l p up s wb n r w
arm_effect u (Branch c l d) w = on_core (branched l d) w
arm_effect u (SoftwareInterrupt c n) w = interrupted n w
arm_effect u (Undefined c bits) w = raised exception.Undefined w

-- an instruction whose condition fails does nothing
unfoldable pub arm_done : Under → ArmInstr → Working → Stepped
arm_done u i w =
    if not (passes (arm_condition i) w.core.cpsr) then ran w else
    if arm_unpredictable i w.core then given_back u w else arm_effect u i w
