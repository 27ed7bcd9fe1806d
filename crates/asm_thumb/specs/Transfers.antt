-- What the operands of transfers say: an address in brackets, a number behind an equals sign, or a label. ARM SDT 2.50
-- Reference Guide, chapter on the assembler. A base alone is the offset 0. Words that are moved by sp, or loaded by pc, have
-- rows of their own; signed bytes and half-words have no number as their offset.
use Rattle.std.specs.Prelude.{◌≡◌, ℕ, List, ◌&&◌, codes, Bool, true, false, if◌then◌else◌, Option, Some, None, Result, Err}
use Rattle.sdt_fault.specs.declared.kinds.LineKind.{LineKind}
use Rattle.sdt_fault.specs.declared.kinds.LineKind.TheVariants.{Syntax}
use Rattle.sdt_word.specs.declared.codes.Width.{Width}
use Rattle.sdt_word.specs.declared.codes.Width.TheVariants as width
use Rattle.thumb_isa.specs.declared.instr.SignedTransfer.{SignedTransfer}
use Rattle.thumb_isa.specs.declared.instr.SignedTransfer.TheVariants as signed
use Rattle.asm_model.specs.declared.tokens.Token.{Token}
use Rattle.asm_model.specs.declared.operands.Register.{Register}
use Rattle.asm_model.specs.declared.statements.What.{What}
use Rattle.asm_model.specs.declared.statements.What.TheVariants as what
use Rattle.asm_model.specs.declared.thumb_lines.ThumbLine.TheVariants as line
use Rattle.asm_model.specs.Operands.{operands}
use Rattle.asm_model.specs.Readings.{mapped}
use Rattle.asm_arm.specs.LineForms.{hash, equals, bracket}
use Rattle.asm_arm.specs.Operands.{Cuts, one, two, cut, between, register, two_registers, three_registers, without_first}
use Rattle.asm_thumb.specs.declared.frames.Frame.{Frame}
use Rattle.asm_thumb.specs.declared.frames.Frame.TheVariants as frame
use Rattle.asm_thumb.specs.Frames.{ReadsWith, with_zero}
use Rattle.asm_thumb.specs.Operands.{is_sp, is_pc}

abbrev pub is_word : Width → Bool
is_word width.Word = true
is_word _ = false

-- a transfer of a word by a base and a number
abbrev pub word_frame : Bool → Register → Register → Frame
word_frame load rd rn =
    if is_sp rn then frame.TransferStack load rd
    else if load && is_pc rn then frame.Literal rd
    else frame.Transfer load false rd rn

-- a transfer by a base and a number
abbrev pub number_frame : Bool → Width → Register → Register → Frame
number_frame load width.Byte rd rn = frame.Transfer load true rd rn
number_frame load width.Half rd rn = frame.TransferHalf load rd rn
number_frame load width.Word rd rn = word_frame load rd rn

abbrev pub based : List ℕ → Bool → Width → List Token → List Token → Result Frame LineKind
based text load w d n = mapped (λ p. number_frame load w p.0 p.1) (two_registers text d n)

-- a transfer of half-words without a sign
abbrev pub half_transfer : Bool → SignedTransfer
half_transfer true = signed.LoadHalf
half_transfer false = signed.StoreHalf

-- a transfer by two registers
abbrev pub register_line : Bool → Width → Register → Register → Register → What
register_line load width.Byte rd rn ro = what.Thumb (line.TransferRegister load true rd rn ro)
register_line load width.Half rd rn ro = what.Thumb (line.TransferSigned (half_transfer load) rd rn ro)
register_line load width.Word rd rn ro = what.Thumb (line.TransferRegister load false rd rn ro)

abbrev pub ReadsOffset : List ℕ → Bool → Width → List Token → List Token → List Token → Option (List Token) → Result What LineKind → Type 0
ReadsOffset text load w d n x (Some e) r = ReadsWith text (based text load w d n) e r
ReadsOffset text load w d n x None r = r ≡ mapped (λ p. register_line load w p.0.0 p.0.1 p.1) (three_registers text d n x)

-- what stands in brackets: a base, or a base and an offset
abbrev pub ReadsInside : List ℕ → Bool → Width → List Token → Cuts → Result What LineKind → Type 0
ReadsInside text load w d (one n) r = r ≡ with_zero (based text load w d n)
ReadsInside text load w d (two n x) r = ReadsOffset text load w d n x (without_first text hash x) r
ReadsInside text load w d _ r = r ≡ Err Syntax

-- the operands in brackets
abbrev pub cuts_of : List ℕ → Option (List Token) → Option Cuts
cuts_of text None = None
cuts_of text (Some ts) = Some (cut (operands text ts))

abbrev pub bracketed : List ℕ → List Token → Option Cuts
bracketed text a = cuts_of text (between text bracket (codes "]") a)

abbrev pub ReadsBracketed : List ℕ → Bool → Width → List Token → Option Cuts → Result What LineKind → Type 0
ReadsBracketed text load w d None r = r ≡ Err Syntax
ReadsBracketed text load w d (Some os) r = ReadsInside text load w d os r

-- a number that is loaded, behind an equals sign, or a label that is loaded
abbrev pub ReadsLoaded : List ℕ → Bool → List Token → List Token → Option (List Token) → Result What LineKind → Type 0
ReadsLoaded text false d a o r = r ≡ Err Syntax
ReadsLoaded text true d a (Some e) r = ReadsWith text (mapped (λ rd. frame.Constant rd) (register text d)) e r
ReadsLoaded text true d a None r = ReadsWith text (mapped (λ rd. frame.Label rd) (register text d)) a r

abbrev pub ReadsPlace : List ℕ → Bool → Width → List Token → List Token → Option (List Token) → Result What LineKind → Type 0
ReadsPlace text load w d a (Some ts) r = ReadsBracketed text load w d (bracketed text a) r
ReadsPlace text load w d a None r = ReadsLoaded text (load && is_word w) d a (without_first text equals a) r

-- LDR and STR, with B and H
abbrev pub ReadsTransfer : List ℕ → Bool → Width → Cuts → Result What LineKind → Type 0
ReadsTransfer text load w (two d a) r = ReadsPlace text load w d a (without_first text bracket a) r
ReadsTransfer text load w _ r = r ≡ Err Syntax

-- LDRSB and LDRSH
abbrev pub signed_inside : List ℕ → SignedTransfer → List Token → Option Cuts → Result What LineKind
signed_inside text k d (Some (two n x)) =
    mapped (λ p. what.Thumb (line.TransferSigned k p.0.0 p.0.1 p.1)) (three_registers text d n x)
signed_inside text k d _ = Err Syntax

abbrev pub signed_transfer : List ℕ → SignedTransfer → Cuts → Result What LineKind
signed_transfer text k (two d a) = signed_inside text k d (bracketed text a)
signed_transfer text k _ = Err Syntax
