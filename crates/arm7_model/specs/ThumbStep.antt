-- The instructions of Thumb state: when they are unpredictable, and what they do
-- (ARM Architecture Reference Manual, Thumb instructions; the list of unpredictable cases is this
-- project's). The registers are those before the instruction, with pc already at the next one.
use Rattle.std.specs.Prelude.{ℕ, ◌+◌, ◌*◌, ◌%◌, ◌^◌, ◌==◌, Bool, true, false, ◌&&◌, ◌||◌, not, if◌then◌else◌}
use Rattle.sdt_word.specs.Numbers.{flag}
use Rattle.sdt_word.specs.declared.codes.ShiftKind.{ShiftKind}
use Rattle.sdt_word.specs.declared.codes.ShiftKind.TheVariants as shift
use Rattle.sdt_word.specs.declared.codes.Width.{Width}
use Rattle.sdt_word.specs.declared.codes.Width.TheVariants as width
use Rattle.arm_isa.specs.declared.instr.Operation.{Operation}
use Rattle.arm_isa.specs.declared.instr.Operation.TheVariants as operation
use Rattle.thumb_isa.specs.declared.instr.ThumbInstr.{ThumbInstr}
use Rattle.thumb_isa.specs.declared.instr.ThumbInstr.TheVariants.{ShiftImmediate, AddSubtract, DataImmediate, DataRegister, HighRegister, LoadLiteral, TransferRegister, TransferSigned, TransferImmediate, TransferHalf, TransferStack, LoadAddress, AdjustStack, PushPop, TransferMultiple, BranchConditional, SoftwareInterrupt, Branch, BranchLink, Undefined}
use Rattle.thumb_isa.specs.declared.instr.ThumbShift.{ThumbShift}
use Rattle.thumb_isa.specs.declared.instr.ThumbShift.TheVariants as thumb_shift
use Rattle.thumb_isa.specs.declared.instr.ImmediateOperation.{ImmediateOperation}
use Rattle.thumb_isa.specs.declared.instr.ImmediateOperation.TheVariants as immediate
use Rattle.thumb_isa.specs.declared.instr.ThumbOperation.{ThumbOperation}
use Rattle.thumb_isa.specs.declared.instr.ThumbOperation.TheVariants as thumb
use Rattle.thumb_isa.specs.declared.instr.HighOperation.{HighOperation}
use Rattle.thumb_isa.specs.declared.instr.HighOperation.TheVariants as high
use Rattle.thumb_isa.specs.declared.instr.SignedTransfer.{SignedTransfer}
use Rattle.thumb_isa.specs.declared.instr.SignedTransfer.TheVariants as signed
use Rattle.arm7_model.specs.declared.state.ArmState.{ArmState}
use Rattle.arm7_model.specs.declared.event.Exception.TheVariants as exception
use Rattle.arm7_model.specs.Registers.{register, with_register, operand_at}
use Rattle.arm7_model.specs.Arithmetic.{Shifted, passes, carry_in, shifted_by_amount, shifted_by_register}
use Rattle.arm7_model.specs.Accesses.{Working, aligned}
use Rattle.arm7_model.specs.Outcomes.{Stepped, Under, ran, raised, given_back}
use Rattle.arm7_model.specs.Data.{calculated, multiplied}
use Rattle.arm7_model.specs.Transfers.{moved_by, loaded, transferred}
use Rattle.arm7_model.specs.Blocks.{block_moved, lists}
use Rattle.arm7_model.specs.Branches.{branch_target, exchanged, interrupted, linked_first, linked_second}
use Rattle.arm7_model.specs.ArmStep.{byte_width, is_lowest, is_pc, on_core}

-- ---- operands

abbrev pub shift_kind : ThumbShift → ShiftKind
shift_kind thumb_shift.Lsl = shift.Lsl
shift_kind thumb_shift.Lsr = shift.Lsr
shift_kind thumb_shift.Asr = shift.Asr

-- a number or a register as an operand: the shifter's carry is C
unfoldable pub plain_operand : ℕ → ArmState → Shifted
plain_operand v s = record { value = v; carry = carry_in s.cpsr }

-- a register of the upper eight where h is 1
abbrev pub high_number : Bool → ℕ → ℕ
high_number h k = k + 8 * flag h

-- pc as a base: the low two bits are cleared
unfoldable pub pc_base : ArmState → ℕ
pc_base s = aligned (operand_at s 15) 4

abbrev pub signed_width : SignedTransfer → Width
signed_width signed.StoreHalf = width.Half
signed_width signed.LoadSignedByte = width.Byte
signed_width signed.LoadHalf = width.Half
signed_width signed.LoadSignedHalf = width.Half

abbrev pub signed_load : SignedTransfer → Bool
signed_load signed.StoreHalf = false
signed_load _ = true

abbrev pub has_sign : SignedTransfer → Bool
has_sign signed.LoadSignedByte = true
has_sign signed.LoadSignedHalf = true
has_sign _ = false

-- PUSH stores lr too, and POP loads pc
abbrev pub stack_list : Bool → Bool → ℕ → ℕ
stack_list load link list = list + (if link then (if load then 2 ^ 15 else 2 ^ 14) else 0)

-- an LDMIA whose base is in the list leaves the loaded value
abbrev pub multiple_write_back : Bool → ℕ → ℕ → Bool
multiple_write_back load rn list = not (load && lists list rn)

-- ---- data processing

-- the operation with S
unfoldable pub immediate_done : ImmediateOperation → ℕ → ℕ → ArmState → ArmState
immediate_done immediate.Mov d i s = calculated operation.Mov true 0 d (plain_operand i s) s
immediate_done immediate.Cmp d i s = calculated operation.Cmp true d 0 (plain_operand i s) s
immediate_done immediate.Add d i s = calculated operation.Add true d d (plain_operand i s) s
immediate_done immediate.Sub d i s = calculated operation.Sub true d d (plain_operand i s) s

-- an operation of Rd and Rs with S, and a shift of Rd by Rs
unfoldable pub combined : Operation → ℕ → ℕ → ArmState → ArmState
combined o rs d s = calculated o true d d (plain_operand (register s rs) s) s

unfoldable pub shifted_register : ShiftKind → ℕ → ℕ → ArmState → ArmState
shifted_register kind rs d s =
    calculated operation.Mov true 0 d (shifted_by_register kind (register s d) (register s rs % 256) (carry_in s.cpsr)) s

unfoldable pub register_done : ThumbOperation → ℕ → ℕ → ArmState → ArmState
register_done thumb.And rs d s = combined operation.And rs d s
register_done thumb.Eor rs d s = combined operation.Eor rs d s
register_done thumb.Lsl rs d s = shifted_register shift.Lsl rs d s
register_done thumb.Lsr rs d s = shifted_register shift.Lsr rs d s
register_done thumb.Asr rs d s = shifted_register shift.Asr rs d s
register_done thumb.Adc rs d s = combined operation.Adc rs d s
register_done thumb.Sbc rs d s = combined operation.Sbc rs d s
register_done thumb.Ror rs d s = shifted_register shift.Ror rs d s
register_done thumb.Tst rs d s = combined operation.Tst rs d s
-- NEG is 0 less Rs
register_done thumb.Neg rs d s = calculated operation.Rsb true rs d (plain_operand 0 s) s
register_done thumb.Cmp rs d s = combined operation.Cmp rs d s
register_done thumb.Cmn rs d s = combined operation.Cmn rs d s
register_done thumb.Orr rs d s = combined operation.Orr rs d s
register_done thumb.Mul rs d s = multiplied false true d 0 d rs s
register_done thumb.Bic rs d s = combined operation.Bic rs d s
register_done thumb.Mvn rs d s = combined operation.Mvn rs d s

-- with high registers only CMP sets flags
unfoldable pub high_done : HighOperation → ℕ → ℕ → ArmState → ArmState
high_done high.Add rs d s = calculated operation.Add false d d (plain_operand (operand_at s rs) s) s
high_done high.Cmp rs d s = calculated operation.Cmp true d 0 (plain_operand (operand_at s rs) s) s
high_done high.Mov rs d s = calculated operation.Mov false 0 d (plain_operand (operand_at s rs) s) s
high_done high.Bx rs d s = exchanged (operand_at s rs) s

unfoldable pub address_loaded : Bool → ℕ → ℕ → ArmState → ArmState
address_loaded stack d i s = with_register s d (((if stack then register s 13 else pc_base s) + 4 * i) % 2 ^ 32)

unfoldable pub stack_adjusted : Bool → ℕ → ArmState → ArmState
stack_adjusted subtract i s = with_register s 13 (moved_by (not subtract) (register s 13) (4 * i))

-- ---- unpredictable cases

-- ADD, CMP and MOV of two low registers, CMP with pc as Rd, and BX to an address that no state has
unfoldable pub bad_high : HighOperation → Bool → Bool → ℕ → ℕ → ArmState → Bool
bad_high high.Add h g rs d s = not h && not g
bad_high high.Cmp h g rs d s = (not h && not g) || is_pc (high_number h d)
bad_high high.Mov h g rs d s = not h && not g
bad_high high.Bx h g rs d s = operand_at s (high_number g rs) % 4 == 2

unfoldable pub is_misaligned : Width → ℕ → Bool
is_misaligned width.Byte a = false
is_misaligned width.Half a = not (a % 2 == 0)
is_misaligned width.Word a = not (a % 4 == 0)

unfoldable pub bad_place : Width → ℕ → ℕ → ArmState → Bool
bad_place w rn offset s = is_misaligned w (moved_by true (register s rn) offset)

unfoldable pub thumb_unpredictable : ThumbInstr → ArmState → Bool
thumb_unpredictable (DataRegister thumb.Mul rs d) s = d == rs
thumb_unpredictable (HighRegister o h g rs d) s = bad_high o h g rs d s
thumb_unpredictable (TransferRegister l b o n d) s = bad_place (byte_width b) n (register s o) s
thumb_unpredictable (TransferSigned k o n d) s = bad_place (signed_width k) n (register s o) s
thumb_unpredictable (TransferImmediate b l i n d) s = bad_place (byte_width b) n (if b then i else 4 * i) s
thumb_unpredictable (TransferHalf l i n d) s = bad_place width.Half n (2 * i) s
thumb_unpredictable (TransferStack l d i) s = bad_place width.Word 13 (4 * i) s
thumb_unpredictable (PushPop l r k) s = k == 0 && not r
thumb_unpredictable (TransferMultiple l n k) s =
    k == 0 || (bad_place width.Word n 0 s || (not l && (lists k n && not (is_lowest k n))))
thumb_unpredictable _ s = false

-- ---- effects

-- register rd and the memory at an offset above register rn
unfoldable pub thumb_transfer : Under → Bool → Bool → Width → ℕ → ℕ → ℕ → Working → Stepped
thumb_transfer u load signed w rn rd offset working = transferred u load signed true true false w rn rd offset working

unfoldable pub thumb_branched : ℕ → ℕ → ArmState → ArmState
thumb_branched width i s = with_register s 15 (branch_target 2 width i s)

unfoldable pub thumb_effect : Under → ThumbInstr → Working → Stepped
thumb_effect u (ShiftImmediate o i rs d) w =
    on_core (calculated operation.Mov true 0 d (shifted_by_amount (shift_kind o) (register w.core rs) i (carry_in w.core.cpsr))) w
thumb_effect u (AddSubtract e o n rs d) w =
    on_core (calculated (if o then operation.Sub else operation.Add) true rs d (plain_operand (if e then n else register w.core n) w.core)) w
thumb_effect u (DataImmediate o d i) w = on_core (immediate_done o d i) w
thumb_effect u (DataRegister o rs d) w = on_core (register_done o rs d) w
thumb_effect u (HighRegister o h g rs d) w = on_core (high_done o (high_number g rs) (high_number h d)) w
thumb_effect u (LoadLiteral d i) w = loaded u false width.Word ((pc_base w.core + 4 * i) % 2 ^ 32) d w.core w
thumb_effect u (TransferRegister l b o n d) w = thumb_transfer u l false (byte_width b) n d (register w.core o) w
thumb_effect u (TransferSigned k o n d) w =
    thumb_transfer u (signed_load k) (has_sign k) (signed_width k) n d (register w.core o) w
thumb_effect u (TransferImmediate b l i n d) w = thumb_transfer u l false (byte_width b) n d (if b then i else 4 * i) w
thumb_effect u (TransferHalf l i n d) w = thumb_transfer u l false width.Half n d (2 * i) w
thumb_effect u (TransferStack l d i) w = thumb_transfer u l false width.Word 13 d (4 * i) w
thumb_effect u (LoadAddress p d i) w = on_core (address_loaded p d i) w
thumb_effect u (AdjustStack s i) w = on_core (stack_adjusted s i) w
-- PUSH stores before the stack pointer, downwards; POP loads from it, upwards
thumb_effect u (PushPop l r k) w = block_moved u true l (not l) l false true 13 (stack_list l r k) w
thumb_effect u (TransferMultiple l n k) w = block_moved u true l false true false (multiple_write_back l n k) n k w
thumb_effect u (BranchConditional c i) w =
    if passes c w.core.cpsr then on_core (thumb_branched 8 i) w else ran w
thumb_effect u (SoftwareInterrupt i) w = interrupted i w
thumb_effect u (Branch i) w = on_core (thumb_branched 11 i) w
thumb_effect u (BranchLink second i) w = on_core (if second then linked_second i else linked_first i) w
thumb_effect u (Undefined i) w = raised exception.Undefined w

unfoldable pub thumb_done : Under → ThumbInstr → Working → Stepped
thumb_done u i w = if thumb_unpredictable i w.core then given_back u w else thumb_effect u i w
