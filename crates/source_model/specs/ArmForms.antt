-- The instruction that a line of ARM state says, with its operands' values, and what is wrong with them. A branch that is
-- left to the linker holds its number less how far pc stands behind the start of the area. ARM Architecture Reference
-- Manual, the instructions; SDT 2.50 Reference Guide, chapter on the assembler; ranges and kinds of faults are this project's.
use Rattle.std.specs.Prelude.{ℕ, suc, zero, ◌+◌, ◌-◌, ◌*◌, ◌/◌, ◌%◌, ◌^◌, ◌==◌, ◌&&◌, ◌||◌, not, nat_lt, nat_le, List, [], ◌∷◌, Bool, true, false, if◌then◌else◌, Option, Some, None, Result, Ok, Err}
use Rattle.std.specs.List.{list_any}
use Rattle.sdt_word.specs.Numbers.{flag}
use Rattle.sdt_word.specs.declared.codes.Condition.{Condition}
use Rattle.sdt_word.specs.declared.codes.ShiftKind.{ShiftKind}
use Rattle.sdt_word.specs.declared.codes.ShiftKind.TheVariants.{Lsl, Lsr, Asr, Ror}
use Rattle.sdt_fault.specs.declared.kinds.LineKind.{LineKind}
use Rattle.sdt_fault.specs.declared.kinds.LineKind.TheVariants.{BadOperand, WrongType, OutOfRange}
use Rattle.arm_isa.specs.declared.instr.HalfKind.{HalfKind}
use Rattle.arm_isa.specs.declared.instr.ArmInstr.{ArmInstr}
use Rattle.arm_isa.specs.declared.instr.ArmInstr.TheVariants as instr
use Rattle.asm_model.specs.declared.operands.Shift.{Shift}
use Rattle.asm_model.specs.declared.operands.Shift.TheVariants as shift
use Rattle.asm_model.specs.declared.operands.Indexing.{Indexing}
use Rattle.asm_model.specs.declared.operands.Indexing.TheVariants as indexing
use Rattle.asm_model.specs.declared.operands.Address.{Address}
use Rattle.asm_model.specs.declared.operands.Address.TheVariants as address
use Rattle.asm_model.specs.declared.operands.HalfOffset.{HalfOffset}
use Rattle.asm_model.specs.declared.operands.HalfOffset.TheVariants as half
use Rattle.asm_model.specs.declared.operands.BlockMode.{BlockMode}
use Rattle.asm_model.specs.declared.operands.BlockMode.TheVariants as mode
use Rattle.asm_model.specs.declared.operands.ListItem.{ListItem}
use Rattle.asm_model.specs.declared.operands.ListItem.TheVariants as item
use Rattle.asm_model.specs.declared.operands.StatusRegister.{StatusRegister}
use Rattle.asm_model.specs.declared.operands.StatusRegister.TheVariants.{Saved}
use Rattle.asm_model.specs.declared.operands.StatusFields.{StatusFields}
use Rattle.asm_model.specs.declared.arm_lines.ArmLine.{ArmLine}
use Rattle.asm_model.specs.declared.arm_lines.ArmLine.TheVariants as arm
use Rattle.asm_model.specs.declared.values.Value.{Value}
use Rattle.asm_model.specs.declared.values.Value.TheVariants.{Number, Place}
use Rattle.asm_model.specs.Meaning.{named_in, stands_at}
use Rattle.asm_model.specs.Readings.{and_then, mapped}
use Rattle.asm_model.specs.Symbols.{is_in_area, keeps_state}
use Rattle.source_model.specs.Contexts.{Context, sees, may_have_symbol, value_of, number_in, register, offset_below, own_offset, from_pc}
use Rattle.source_model.specs.Immediates.{immediate, data_immediate, status_of}

-- ---- shifts

-- the field of an amount, where the kind of shift takes it
abbrev pub amount_field : ShiftKind → ℕ → Result ℕ LineKind
amount_field Lsl n = if nat_lt n 32 then Ok n else Err OutOfRange
amount_field Lsr n = if nat_le 1 n && nat_le n 32 then Ok (n % 32) else Err OutOfRange
amount_field Asr n = if nat_le 1 n && nat_le n 32 then Ok (n % 32) else Err OutOfRange
amount_field Ror n = if nat_le 1 n && nat_le n 31 then Ok n else Err OutOfRange

-- kind and amount of a shift
abbrev pub shift_fields : Context → Shift → Result (ShiftKind × ℕ) LineKind
shift_fields c shift.Unshifted = Ok (Lsl, 0)
shift_fields c (shift.By kind e) = and_then (number_in c e) (λ n. mapped (λ a. (kind, a)) (amount_field kind n))
shift_fields c shift.Extended = Ok (Ror, 0)

-- ---- transfers

-- whether the offset counts before the transfer, and whether the bit for writing back is set
abbrev pub is_before : Indexing → Bool
is_before indexing.Offset = true
is_before indexing.Before = true
is_before indexing.After = false
is_before indexing.Translated = false
is_before indexing.TranslatedBefore = true

abbrev pub writes_back : Indexing → Bool
writes_back indexing.Offset = false
writes_back indexing.Before = true
writes_back indexing.After = false
writes_back indexing.Translated = true
writes_back indexing.TranslatedBefore = true

abbrev pub transfer_at : Context → Condition → Bool → Bool → ℕ → Address → Result ArmInstr LineKind
transfer_at c condition load byte rd (address.Based rn ix e) =
    and_then (number_in c e) (λ n.
    mapped (λ o. instr.TransferImmediate condition (is_before ix) o.0 byte (writes_back ix) load (register c rn) rd o.1)
    (offset_below 4096 n))
transfer_at c condition load byte rd (address.Label e) =
    and_then (own_offset c (value_of c e)) (λ at.
    mapped (λ o. instr.TransferImmediate condition true o.0 byte false load 15 rd o.1) (offset_below 4096 (from_pc c at)))

abbrev pub half_at : Context → Condition → Bool → HalfKind → ℕ → ℕ → Indexing → HalfOffset → Result ArmInstr LineKind
half_at c condition load kind rd rn ix (half.Number e) =
    and_then (number_in c e) (λ n.
    mapped (λ o. instr.TransferHalf condition (is_before ix) o.0 true (writes_back ix) load rn rd (o.1 / 16) kind (o.1 % 16))
    (offset_below 256 n))
half_at c condition load kind rd rn ix (half.Register subtract rm) =
    Ok (instr.TransferHalf condition (is_before ix) (not subtract) false (writes_back ix) load rn rd 0 kind (register c rm))

-- ---- blocks

abbrev pub is_listed_by : Context → ℕ → ListItem → Bool
is_listed_by c k (item.One r) = register c r == k
is_listed_by c k (item.Range first last) = nat_le (register c first) k && nat_le k (register c last)

-- the bits of a list from register k on, for so many registers
abbrev pub list_bits : Context → List ListItem → ℕ → ℕ → ℕ
list_bits c items k zero = 0
list_bits c items k (suc n) = flag (list_any (is_listed_by c k) items) * 2 ^ k + list_bits c items (suc k) n

abbrev pub is_block_before : BlockMode → Bool
is_block_before mode.IncrementAfter = false
is_block_before mode.IncrementBefore = true
is_block_before mode.DecrementAfter = false
is_block_before mode.DecrementBefore = true

abbrev pub is_block_up : BlockMode → Bool
is_block_up mode.IncrementAfter = true
is_block_up mode.IncrementBefore = true
is_block_up mode.DecrementAfter = false
is_block_up mode.DecrementBefore = false

-- ---- status registers

-- whether it is the saved one; a word that names none says nothing
abbrev pub is_saved : Option StatusRegister → Bool
is_saved (Some Saved) = true
is_saved _ = false

abbrev pub are_saved : Option StatusFields → Bool
are_saved None = false
are_saved (Some f) = is_saved (Some f.register)

abbrev pub mask_of : Option StatusFields → ℕ
mask_of None = 0
mask_of (Some f) = f.mask

-- ---- branches

-- a displacement modulo 2^32 as the field of an ARM branch
abbrev pub branch_field : ℕ → Result ℕ LineKind
branch_field d =
    if d % 4 == 0 then (if nat_lt d (2 ^ 25) || nat_le (2 ^ 32 - 2 ^ 25) d then Ok (d / 4 % 2 ^ 24) else Err OutOfRange)
    else Err BadOperand

-- whether a branch of the statement to a symbol is settled here: it is a label of the same area and state, or another place of
-- the area
abbrev pub is_settled : Context → List ℕ → Bool
is_settled c s =
    is_in_area c.line.area (stands_at (sees c) s) && keeps_state c.line.thumb (named_in s (sees c).list)

abbrev pub offset_at : Option (ℕ × ℕ) → ℕ
offset_at None = 0
offset_at (Some a) = a.1

-- the displacement that a branch to a symbol plus a number holds; a symbol that is left to the linker counts as 0
abbrev pub branch_from : Context → List ℕ → ℕ → ℕ
branch_from c [] n = from_pc c n
branch_from c (x ∷ xs) n = from_pc c (if is_settled c (x ∷ xs) then offset_at (stands_at (sees c) (x ∷ xs)) + n else n)

-- a branch that isn't settled needs a symbol
abbrev pub has_symbol : Context → List ℕ → Bool
has_symbol c [] = true
has_symbol c (x ∷ xs) = is_settled c (x ∷ xs) || may_have_symbol c (x ∷ xs)

abbrev pub branch_displacement : Context → Result Value LineKind → Result ℕ LineKind
branch_displacement c (Ok (Place s n)) = if has_symbol c s then Ok (branch_from c s n) else Err BadOperand
branch_displacement c (Ok (Number n)) = Err BadOperand
branch_displacement c (Ok _) = Err WrongType
branch_displacement c (Err k) = Err k

-- ---- all lines

abbrev pub arm_instruction : Context → ArmLine → Result ArmInstr LineKind
arm_instruction c (arm.DataImmediate condition operation set_flags rd rn e) =
    and_then (number_in c e) (data_immediate condition operation set_flags (register c rn) (register c rd))
arm_instruction c (arm.DataShifted condition operation set_flags rd rn rm by) =
    mapped (λ f. instr.DataShifted condition operation set_flags (register c rn) (register c rd) f.1 f.0 (register c rm))
    (shift_fields c by)
arm_instruction c (arm.DataRegisterShifted condition operation set_flags rd rn rm kind rs) =
    Ok (instr.DataRegisterShifted condition operation set_flags (register c rn) (register c rd) (register c rs) kind (register c rm))
arm_instruction c (arm.Multiply condition accumulate set_flags rd rm rs rn) =
    Ok (instr.Multiply condition accumulate set_flags (register c rd) (register c rn) (register c rs) (register c rm))
arm_instruction c (arm.MultiplyLong condition signed accumulate set_flags low high rm rs) =
    Ok (instr.MultiplyLong condition signed accumulate set_flags (register c high) (register c low) (register c rs) (register c rm))
arm_instruction c (arm.Swap condition byte rd rm rn) = Ok (instr.Swap condition byte (register c rn) (register c rd) (register c rm))
arm_instruction c (arm.BranchExchange condition rm) = Ok (instr.BranchExchange condition (register c rm))
arm_instruction c (arm.ReadStatus condition status rd) = Ok (instr.ReadStatus condition (is_saved status) (register c rd))
arm_instruction c (arm.WriteStatus condition fields rm) = Ok (instr.WriteStatus condition (are_saved fields) (mask_of fields) (register c rm))
arm_instruction c (arm.WriteStatusImmediate condition fields e) =
    and_then (number_in c e) (λ n. status_of condition (are_saved fields) (mask_of fields) (immediate n))
arm_instruction c (arm.TransferImmediate condition load byte rd a) = transfer_at c condition load byte (register c rd) a
arm_instruction c (arm.TransferShifted condition load byte rd rn ix subtract rm by) =
    mapped (λ f. instr.TransferShifted condition (is_before ix) (not subtract) byte (writes_back ix) load (register c rn) (register c rd)
    f.1 f.0 (register c rm))
    (shift_fields c by)
arm_instruction c (arm.TransferHalf condition load kind rd rn ix o) = half_at c condition load kind (register c rd) (register c rn) ix o
arm_instruction c (arm.TransferBlock condition load m rn write_back list user) =
    Ok (instr.TransferBlock condition (is_block_before m) (is_block_up m) user write_back load (register c rn)
    (list_bits c list.items 0 16))
arm_instruction c (arm.Branch condition link e) =
    and_then (branch_displacement c (value_of c e)) (λ d. mapped (λ f. instr.Branch condition link f) (branch_field d))
arm_instruction c (arm.SoftwareInterrupt condition e) =
    and_then (number_in c e) (λ n. if nat_lt n (2 ^ 24) then Ok (instr.SoftwareInterrupt condition n) else Err OutOfRange)
