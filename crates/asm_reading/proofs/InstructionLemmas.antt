-- What is asked of an instruction or a pseudo-instruction of a state.
use Rattle.std.proofs.Common.{List, [], ◌∷◌, Bool, true, false}
use Rattle.std.specs.Prelude.{Result}
use Rattle.sdt_fault.specs.declared.kinds.LineKind.{LineKind}
use Rattle.asm_model.specs.declared.arm_lines.ArmLine.{ArmLine}
use Rattle.asm_model.specs.declared.thumb_lines.ThumbLine.{ThumbLine}
use Rattle.asm_model.specs.declared.tokens.Token.{Token}
use Rattle.asm_model.specs.declared.statements.What.{What}
use Rattle.asm_model.specs.declared.statements.What.TheVariants as what
use Rattle.asm_arm.specs.LineForms.{no_operation}
use Rattle.asm_model.specs.Said.{ArmSaid, ThumbSaid, PseudoSaid}
use Rattle.asm_reading.proofs.GivesLemmas.{Gives}

abbrev pub ArmIn : Bool → ArmLine → Type 0
ArmIn true l = ⊥
ArmIn false l = ArmSaid l

abbrev pub ThumbIn : Bool → ThumbLine → Type 0
ThumbIn true l = ThumbSaid l
ThumbIn false l = ⊥

abbrev pub InstructionIn : Bool → What → Type 0
InstructionIn thumb what.Nothing = ⊥
InstructionIn thumb (what.Arm l) = ArmIn thumb l
InstructionIn thumb (what.Thumb l) = ThumbIn thumb l
InstructionIn thumb (what.Pseudo l) = PseudoSaid l
InstructionIn thumb (what.Directive l) = ⊥

abbrev pub SaidIn : Bool → Result What LineKind → Type 0
SaidIn thumb r = Gives (InstructionIn thumb) r

pub idle_in : (thumb : Bool) (ts : List Token) → SaidIn thumb (no_operation ts)
idle_in thumb [] = tt
idle_in thumb (t ∷ ts) = tt
