-- What lines of Thumb state say fits the rows of the instruction table. Instructions as in the ARM Architecture Reference
-- Manual; the laws are this project's.
use Rattle.std.specs.Prelude.{◌≡◌, ℕ, ◌<◌, ◌^◌, false, true, Option, Ok}
use Rattle.sdt_word.specs.Rows.{FitsRow, word_of}
use Rattle.thumb_isa.specs.declared.instr.ThumbInstr.{ThumbInstr}
use Rattle.thumb_isa.specs.declared.instr.ThumbInstr.TheVariants.{BranchLink}
use Rattle.thumb_isa.specs.ThumbRows.{thumb_row, thumb_fields, FitsConditions, ReadsThumb}
use Rattle.asm_model.specs.declared.statements.PseudoLine.{PseudoLine}
use Rattle.asm_model.specs.declared.thumb_lines.ThumbLine.{ThumbLine}
use Rattle.asm_model.specs.Said.{ThumbSaid}
use Rattle.source_model.specs.declared.codes.ThumbCode.{ThumbCode}
use Rattle.source_model.specs.declared.codes.ThumbCode.TheVariants.{One, Pair}
use Rattle.source_model.specs.Contexts.{Context}
use Rattle.source_model.specs.ThumbForms.{thumb_instruction, thumb_pseudo}

-- an instruction fits its row, and keeps the row's conditions
pub record ThumbFits (i : ThumbInstr) : Type 0 where
  pub fields : FitsRow (thumb_row i) (thumb_fields i)
  pub conditions : FitsConditions i

-- so does what a line says; each half of BL has 11 bits
abbrev pub CodeFits : ThumbCode → Type 0
CodeFits (One i) = ThumbFits i
CodeFits (Pair f g) = (f < 2 ^ 11) × (g < 2 ^ 11)

-- an instruction is read from the half-word that its fields make in its row
abbrev pub IsWritten : ThumbInstr → Type 0
IsWritten i = ReadsThumb (word_of (thumb_row i) (thumb_fields i)) i

-- so are both halves of BL
abbrev pub CodeIsWritten : ThumbCode → Type 0
CodeIsWritten (One i) = IsWritten i
CodeIsWritten (Pair f g) = IsWritten (BranchLink false f) × IsWritten (BranchLink true g)

-- what a line says fits its row, whichever numbers its registers have
abbrev pub ThumbInstructionsFit : Type 0
ThumbInstructionsFit = (c : Context) (l : ThumbLine) (i : ThumbCode) → ThumbSaid l → thumb_instruction c l ≡ Ok i → CodeFits i

abbrev pub ThumbPseudoInstructionsFit : Type 0
ThumbPseudoInstructionsFit =
    (c : Context) (word : Option ℕ) (l : PseudoLine) (i : ThumbInstr) → thumb_pseudo c word l ≡ Ok i → ThumbFits i

-- what fits its row is read from the half-words that its fields make there
abbrev pub FittingThumbCodesAreWritten : Type 0
FittingThumbCodesAreWritten = (i : ThumbCode) → CodeFits i → CodeIsWritten i
