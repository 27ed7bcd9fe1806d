-- The instructions of a pseudo-instruction in ARM state. ADR is one ADD or SUB from pc, ADRL two: the first takes the
-- lowest eight bits of the distance from the lowest even place that has a set bit, the second the rest, and ADD is tried
-- before SUB. SDT 2.50 Reference Guide, chapter on the assembler; the split is this project's.
use Rattle.std.specs.Prelude.{ℕ, ◌-◌, ◌*◌, ◌/◌, ◌%◌, ◌^◌, ◌==◌, List, [], ◌∷◌, true, false, if◌then◌else◌, Option, Some, None, Result, Ok, Err}
use Rattle.sdt_word.specs.declared.codes.Condition.{Condition}
use Rattle.sdt_word.specs.declared.codes.Condition.TheVariants.{Al}
use Rattle.sdt_word.specs.declared.codes.ShiftKind.TheVariants.{Lsl}
use Rattle.sdt_fault.specs.declared.kinds.LineKind.{LineKind}
use Rattle.sdt_fault.specs.declared.kinds.LineKind.TheVariants.{OutOfRange}
use Rattle.arm_isa.specs.declared.instr.Operation.{Operation}
use Rattle.arm_isa.specs.declared.instr.Operation.TheVariants.{Add, Sub, Mov}
use Rattle.arm_isa.specs.declared.instr.ArmInstr.{ArmInstr}
use Rattle.arm_isa.specs.declared.instr.ArmInstr.TheVariants as instr
use Rattle.asm_model.specs.declared.statements.PseudoLine.{PseudoLine}
use Rattle.asm_model.specs.declared.statements.PseudoLine.TheVariants as pseudo
use Rattle.asm_model.specs.Readings.{and_then, mapped}
use Rattle.source_model.specs.Contexts.{Context, value_of, number_in, register, offset_below, own_offset, from_pc}
use Rattle.source_model.specs.Immediates.{immediate, negated, data_immediate}

-- ---- ADR

abbrev pub adding : Condition → Operation → ℕ → ℕ → ℕ × ℕ → ArmInstr
adding condition operation rn rd i = instr.DataImmediate condition operation false rn rd i.0 i.1

abbrev pub address_by : Condition → ℕ → Option (ℕ × ℕ) → Option (ℕ × ℕ) → Result ArmInstr LineKind
address_by condition rd (Some i) other = Ok (adding condition Add 15 rd i)
address_by condition rd None (Some i) = Ok (adding condition Sub 15 rd i)
address_by condition rd None None = Err OutOfRange

-- an address that lies so far behind pc, modulo 2^32
abbrev pub address_instruction : Condition → ℕ → ℕ → Result ArmInstr LineKind
address_instruction condition rd distance = address_by condition rd (immediate distance) (immediate (negated distance))

-- ---- ADRL

abbrev pub places : List ℕ
places = 0 ∷ 2 ∷ 4 ∷ 6 ∷ 8 ∷ 10 ∷ 12 ∷ 14 ∷ 16 ∷ 18 ∷ 20 ∷ 22 ∷ 24 ∷ 26 ∷ 28 ∷ 30 ∷ []

-- the least of these even places at which a number has one of two bits set; 0 of no number but 0
abbrev pub lowest_among : List ℕ → ℕ → ℕ
lowest_among [] n = 0
lowest_among (p ∷ ps) n = if n / 2 ^ p % 4 == 0 then lowest_among ps n else p

-- the eight bits from there, and the rest
abbrev pub first_part : ℕ → ℕ
first_part n = n / 2 ^ lowest_among places n % 2 ^ 8 * 2 ^ lowest_among places n

abbrev pub second_part : ℕ → ℕ
second_part n = n - first_part n

abbrev pub two_by : Condition → Operation → ℕ → Option (ℕ × ℕ) → Option (ℕ × ℕ) → Option (List ArmInstr)
two_by condition operation rd (Some i) (Some j) = Some (adding condition operation 15 rd i ∷ adding condition operation rd rd j ∷ [])
two_by condition operation rd _ _ = None

abbrev pub two_of : Condition → Operation → ℕ → ℕ → Option (List ArmInstr)
two_of condition operation rd n = two_by condition operation rd (immediate (first_part n)) (immediate (second_part n))

abbrev pub first_of : Option (List ArmInstr) → Option (List ArmInstr) → Result (List ArmInstr) LineKind
first_of (Some is) other = Ok is
first_of None (Some is) = Ok is
first_of None None = Err OutOfRange

abbrev pub long_address : Condition → ℕ → ℕ → Result (List ArmInstr) LineKind
long_address condition rd distance = first_of (two_of condition Add rd distance) (two_of condition Sub rd (negated distance))

-- ---- all

abbrev pub one : ArmInstr → List ArmInstr
one i = i ∷ []

-- a literal: a move where it has no word, and else a load from its word
abbrev pub load_literal : Context → Condition → ℕ → Result ℕ LineKind → Option ℕ → Result (List ArmInstr) LineKind
load_literal c condition rd number None =
    and_then number (λ n. mapped one (data_immediate condition Mov false 0 rd n))
load_literal c condition rd number (Some word) =
    mapped (λ o. one (instr.TransferImmediate condition true o.0 false false true 15 rd o.1)) (offset_below 4096 (from_pc c word))

-- the instructions of a statement whose literal has its word at an offset, if it has one
abbrev pub pseudo_instructions : Context → Option ℕ → PseudoLine → Result (List ArmInstr) LineKind
pseudo_instructions c word (pseudo.LoadConstant condition rd e) = load_literal c condition (register c rd) (number_in c e) word
pseudo_instructions c word (pseudo.Address condition rd e) =
    and_then (own_offset c (value_of c e)) (λ at. mapped one (address_instruction condition (register c rd) (from_pc c at)))
pseudo_instructions c word (pseudo.LongAddress condition rd e) =
    and_then (own_offset c (value_of c e)) (λ at. long_address condition (register c rd) (from_pc c at))
pseudo_instructions c word pseudo.NoOperation = Ok (one (instr.DataShifted Al Mov false 0 0 0 Lsl 0))
