-- What lines say fits the rows of the instruction table. Instructions as in the ARM Architecture Reference Manual; the
-- laws are this project's.
use Rattle.std.specs.Prelude.{◌≡◌, ℕ, ◌<◌, List, [], ◌∷◌, Option, Some, Ok}
use Rattle.arm_isa.specs.declared.instr.ArmInstr.{ArmInstr}
use Rattle.arm_isa.specs.ArmRows.{arm_row, arm_fields, FitsConditions, ReadsArm}
use Rattle.asm_model.specs.declared.arm_lines.ArmLine.{ArmLine}
use Rattle.asm_model.specs.declared.statements.PseudoLine.{PseudoLine}
use Rattle.sdt_word.specs.Rows.{FitsRow, word_of}
use Rattle.asm_model.specs.Said.{ArmSaid, PseudoSaid}
use Rattle.source_model.specs.Contexts.{Context}
use Rattle.source_model.specs.Registers.{register_in}
use Rattle.source_model.specs.ArmForms.{arm_instruction}
use Rattle.source_model.specs.PseudoForms.{pseudo_instructions}

-- names for registers stand for numbers below 16
abbrev pub NamesRegisters : Context → Type 0
NamesRegisters c = (q : List ℕ) (n : ℕ) → register_in q c.registers ≡ Some n → n < 16

-- an instruction fits its row, and keeps the row's conditions
pub record Fits (i : ArmInstr) : Type 0 where
  pub fields : FitsRow (arm_row i) (arm_fields i)
  pub conditions : FitsConditions i

abbrev pub AllFit : List ArmInstr → Type 0
AllFit [] = Unit {0}
AllFit (i ∷ is) = Fits i × AllFit is

-- what a line says fits its row
abbrev pub InstructionsFit : Type 0
InstructionsFit = (c : Context) (l : ArmLine) (i : ArmInstr) → NamesRegisters c → ArmSaid l → arm_instruction c l ≡ Ok i → Fits i

abbrev pub PseudoInstructionsFit : Type 0
PseudoInstructionsFit =
    (c : Context) (word : Option ℕ) (l : PseudoLine) (is : List ArmInstr)
    → NamesRegisters c → PseudoSaid l → pseudo_instructions c word l ≡ Ok is → AllFit is

-- an instruction that fits its row is read from the word that its fields make there
abbrev pub FittingInstructionsAreWritten : Type 0
FittingInstructionsAreWritten = (i : ArmInstr) → Fits i → ReadsArm (word_of (arm_row i) (arm_fields i)) i
