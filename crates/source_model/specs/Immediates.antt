-- Immediate operands: the least rotation that gives the number, or else the twin of the operation. MOV and MVN, AND and
-- BIC are twins with the inverted number, ADD and SUB, CMP and CMN with the negated one. ARM Architecture Reference
-- Manual, immediate operands; SDT 2.50 Reference Guide, chapter on the assembler.
use Rattle.std.specs.Prelude.{ℕ, ◌-◌, ◌*◌, ◌%◌, ◌^◌, nat_lt, List, [], ◌∷◌, Bool, if◌then◌else◌, Option, Some, None, Result, Ok, Err}
use Rattle.sdt_word.specs.Numbers.{rotated}
use Rattle.sdt_word.specs.declared.codes.Condition.{Condition}
use Rattle.sdt_fault.specs.declared.kinds.LineKind.{LineKind}
use Rattle.sdt_fault.specs.declared.kinds.LineKind.TheVariants.{Constant}
use Rattle.arm_isa.specs.declared.instr.Operation.{Operation}
use Rattle.arm_isa.specs.declared.instr.Operation.TheVariants.{And, Sub, Add, Cmp, Cmn, Mov, Bic, Mvn}
use Rattle.arm_isa.specs.declared.instr.ArmInstr.{ArmInstr}
use Rattle.arm_isa.specs.declared.instr.ArmInstr.TheVariants as arm

-- rotations, of two places each
abbrev pub rotations : List ℕ
rotations = 0 ∷ 1 ∷ 2 ∷ 3 ∷ 4 ∷ 5 ∷ 6 ∷ 7 ∷ 8 ∷ 9 ∷ 10 ∷ 11 ∷ 12 ∷ 13 ∷ 14 ∷ 15 ∷ []

-- what is rotated right by twice r to give the number
abbrev pub turned_back : ℕ → ℕ → ℕ
turned_back n r = rotated n ((32 - 2 * r) % 32)

abbrev pub immediate_among : List ℕ → ℕ → Option (ℕ × ℕ)
immediate_among [] n = None
immediate_among (r ∷ rs) n = if nat_lt (turned_back n r) 256 then Some (r, turned_back n r) else immediate_among rs n

-- the least rotation of a number and the byte
unfoldable pub immediate : ℕ → Option (ℕ × ℕ)
immediate n = immediate_among rotations n

abbrev pub inverted : ℕ → ℕ
inverted n = 2 ^ 32 - 1 - n

abbrev pub negated : ℕ → ℕ
negated n = (2 ^ 32 - n) % 2 ^ 32

abbrev pub twin : Operation → ℕ → Option (Operation × ℕ)
twin Mov n = Some (Mvn, inverted n)
twin Mvn n = Some (Mov, inverted n)
twin And n = Some (Bic, inverted n)
twin Bic n = Some (And, inverted n)
twin Add n = Some (Sub, negated n)
twin Sub n = Some (Add, negated n)
twin Cmp n = Some (Cmn, negated n)
twin Cmn n = Some (Cmp, negated n)
twin _ n = None

abbrev pub with_immediate : Condition → Operation → Bool → ℕ → ℕ → Option (ℕ × ℕ) → Result ArmInstr LineKind → Result ArmInstr LineKind
with_immediate condition operation set_flags rn rd None other = other
with_immediate condition operation set_flags rn rd (Some i) other = Ok (arm.DataImmediate condition operation set_flags rn rd i.0 i.1)

abbrev pub twin_instruction : Condition → Bool → ℕ → ℕ → Option (Operation × ℕ) → Result ArmInstr LineKind
twin_instruction condition set_flags rn rd None = Err Constant
twin_instruction condition set_flags rn rd (Some t) = with_immediate condition t.0 set_flags rn rd (immediate t.1) (Err Constant)

-- the instruction of an operation with a number
unfoldable pub data_immediate : Condition → Operation → Bool → ℕ → ℕ → ℕ → Result ArmInstr LineKind
data_immediate condition operation set_flags rn rd n =
    with_immediate condition operation set_flags rn rd (immediate n) (twin_instruction condition set_flags rn rd (twin operation n))

abbrev pub status_of : Condition → Bool → ℕ → Option (ℕ × ℕ) → Result ArmInstr LineKind
status_of condition saved fields None = Err Constant
status_of condition saved fields (Some i) = Ok (arm.WriteStatusImmediate condition saved fields i.0 i.1)
