-- What the tokens behind an operation word say, in each form of a Thumb line. The forms are those of the ARM SDT 2.50
-- Reference Guide, chapter on the assembler. A form that the tokens don't have is Syntax. Registers are judged by the row
-- and not here, and so are values.
use Rattle.std.specs.Prelude.{◌≡◌, ℕ, List, Bool, Option, Some, None, Result, Ok, Err}
use Rattle.sdt_fault.specs.declared.kinds.LineKind.{LineKind}
use Rattle.sdt_fault.specs.declared.kinds.LineKind.TheVariants.{Syntax, FloatingPoint}
use Rattle.thumb_isa.specs.declared.instr.HighOperation.TheVariants as high
use Rattle.asm_model.specs.declared.tokens.Token.{Token}
use Rattle.asm_model.specs.declared.statements.What.{What}
use Rattle.asm_model.specs.declared.statements.What.TheVariants as what
use Rattle.asm_model.specs.declared.thumb_lines.ThumbLine.TheVariants as line
use Rattle.asm_model.specs.Operands.{operands}
use Rattle.asm_model.specs.Readings.{mapped, on_both}
use Rattle.asm_arm.specs.LineForms.{hash, no_operation, without_hash}
use Rattle.asm_arm.specs.Operands.{Cuts, one, two, cut, no_register, register, without_first}
use Rattle.asm_thumb.specs.declared.frames.Frame.TheVariants as frame
use Rattle.asm_thumb.specs.declared.mnemonics.Mnemonic.{Mnemonic}
use Rattle.asm_thumb.specs.declared.mnemonics.Mnemonic.TheVariants as mnemonic
use Rattle.asm_thumb.specs.Data.{ReadsImmediate, ReadsShift, registers}
use Rattle.asm_thumb.specs.Frames.{ReadsWith}
use Rattle.asm_thumb.specs.Operands.{register_list, written_base}
use Rattle.asm_thumb.specs.Transfers.{ReadsTransfer, signed_transfer}

-- a register list
abbrev pub push_pop : List ℕ → Bool → Cuts → Result What LineKind
push_pop text load (one l) = mapped (λ items. what.Thumb (line.PushPop load (record { items = items }))) (register_list text l)
push_pop text load _ = Err Syntax

-- a base that is written back, and a register list
abbrev pub multiple : List ℕ → Bool → Cuts → Result What LineKind
multiple text load (two b l) =
    on_both (λ rn items. what.Thumb (line.TransferMultiple load rn (record { items = items }))) (written_base text b) (register_list text l)
multiple text load _ = Err Syntax

-- BX takes any register
abbrev pub exchange : List ℕ → Cuts → Result What LineKind
exchange text (one s) = mapped (λ rs. what.Thumb (line.HighRegister high.Bx no_register rs)) (register text s)
exchange text _ = Err Syntax

-- Rd and a label
abbrev pub ReadsAddress : List ℕ → Cuts → Result What LineKind → Type 0
ReadsAddress text (two d e) r =
    ReadsWith text (mapped (λ rd. frame.Address rd) (register text d)) e r
ReadsAddress text _ r = r ≡ Err Syntax

-- what the tokens behind an operation word say
abbrev pub ReadsWord : List ℕ → Mnemonic → List Token → Result What LineKind → Type 0
ReadsWord text (mnemonic.Immediate o) ts r = ReadsImmediate text o (cut (operands text ts)) r
ReadsWord text (mnemonic.Shift k) ts r = ReadsShift text k (cut (operands text ts)) r
ReadsWord text (mnemonic.Register o) ts r = r ≡ registers text o (cut (operands text ts))
ReadsWord text (mnemonic.Transfer load w) ts r = ReadsTransfer text load w (cut (operands text ts)) r
ReadsWord text (mnemonic.TransferSigned k) ts r = r ≡ signed_transfer text k (cut (operands text ts))
ReadsWord text (mnemonic.PushPop load) ts r = r ≡ push_pop text load (cut (operands text ts))
ReadsWord text (mnemonic.TransferMultiple load) ts r = r ≡ multiple text load (cut (operands text ts))
ReadsWord text (mnemonic.BranchConditional c) ts r = ReadsWith text (Ok (frame.BranchConditional c)) ts r
ReadsWord text mnemonic.Branch ts r = ReadsWith text (Ok frame.Branch) ts r
ReadsWord text mnemonic.BranchLink ts r = ReadsWith text (Ok frame.BranchLink) ts r
ReadsWord text mnemonic.BranchExchange ts r = r ≡ exchange text (cut (operands text ts))
ReadsWord text mnemonic.SoftwareInterrupt ts r =
    ReadsWith text (Ok frame.SoftwareInterrupt) (without_hash ts (without_first text hash ts)) r
ReadsWord text mnemonic.Address ts r = ReadsAddress text (cut (operands text ts)) r
ReadsWord text mnemonic.NoOperation ts r = r ≡ no_operation ts
ReadsWord text mnemonic.FloatingPoint ts r = r ≡ Err FloatingPoint

-- the same, of an operation that may have no name, and the kind of the fault then
abbrev pub Reads : List ℕ → LineKind → Option Mnemonic → List Token → Result What LineKind → Type 0
Reads text k None ts r = r ≡ Err k
Reads text k (Some m) ts r = ReadsWord text m ts r
