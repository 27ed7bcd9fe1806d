-- The operation words of Thumb state, in any case. ARM SDT 2.50 Reference Guide, chapter on the assembler, and ARM
-- Architecture Reference Manual. A word has no condition but behind B, where AL is none, and no suffix S; LDM and STM
-- have the mode IA alone. The words of the FPA are those of ARM state, and no state reads them. The code has the same
-- table.
use Rattle.std.specs.Prelude.{ℕ, List, [], ◌∷◌, codes, true, false, Option, Some, None}
use Rattle.sdt_word.specs.declared.codes.Condition.{Condition}
use Rattle.sdt_word.specs.declared.codes.Condition.TheVariants as condition
use Rattle.sdt_word.specs.declared.codes.Width.TheVariants as width
use Rattle.thumb_isa.specs.declared.instr.ImmediateOperation.TheVariants as immediate
use Rattle.thumb_isa.specs.declared.instr.ThumbOperation.TheVariants as operation
use Rattle.thumb_isa.specs.declared.instr.ThumbShift.TheVariants as shift
use Rattle.thumb_isa.specs.declared.instr.SignedTransfer.TheVariants as signed
use Rattle.asm_model.specs.Directives.{row_of, or_else}
use Rattle.asm_arm.specs.declared.mnemonics.Mnemonic.{Mnemonic as ArmMnemonic}
use Rattle.asm_arm.specs.declared.mnemonics.Mnemonic.TheVariants as arm
use Rattle.asm_arm.specs.Mnemonics as arm_words
use Rattle.asm_thumb.specs.declared.mnemonics.Mnemonic.{Mnemonic}
use Rattle.asm_thumb.specs.declared.mnemonics.Mnemonic.TheVariants as mnemonic

-- the words of the integer core
unfoldable pub core_named : List ℕ → Option Mnemonic
core_named word = row_of word (
    (codes "MOV", mnemonic.Immediate immediate.Mov) ∷ (codes "CMP", mnemonic.Immediate immediate.Cmp)
    ∷ (codes "ADD", mnemonic.Immediate immediate.Add) ∷ (codes "SUB", mnemonic.Immediate immediate.Sub)
    ∷ (codes "LSL", mnemonic.Shift shift.Lsl) ∷ (codes "LSR", mnemonic.Shift shift.Lsr)
    ∷ (codes "ASR", mnemonic.Shift shift.Asr)
    ∷ (codes "AND", mnemonic.Register operation.And) ∷ (codes "EOR", mnemonic.Register operation.Eor)
    ∷ (codes "ADC", mnemonic.Register operation.Adc) ∷ (codes "SBC", mnemonic.Register operation.Sbc)
    ∷ (codes "ROR", mnemonic.Register operation.Ror) ∷ (codes "TST", mnemonic.Register operation.Tst)
    ∷ (codes "NEG", mnemonic.Register operation.Neg) ∷ (codes "CMN", mnemonic.Register operation.Cmn)
    ∷ (codes "ORR", mnemonic.Register operation.Orr) ∷ (codes "MUL", mnemonic.Register operation.Mul)
    ∷ (codes "BIC", mnemonic.Register operation.Bic) ∷ (codes "MVN", mnemonic.Register operation.Mvn)
    ∷ (codes "LDR", mnemonic.Transfer true width.Word) ∷ (codes "STR", mnemonic.Transfer false width.Word)
    ∷ (codes "LDRB", mnemonic.Transfer true width.Byte) ∷ (codes "STRB", mnemonic.Transfer false width.Byte)
    ∷ (codes "LDRH", mnemonic.Transfer true width.Half) ∷ (codes "STRH", mnemonic.Transfer false width.Half)
    ∷ (codes "LDRSB", mnemonic.TransferSigned signed.LoadSignedByte)
    ∷ (codes "LDRSH", mnemonic.TransferSigned signed.LoadSignedHalf)
    ∷ (codes "PUSH", mnemonic.PushPop false) ∷ (codes "POP", mnemonic.PushPop true)
    ∷ (codes "STMIA", mnemonic.TransferMultiple false) ∷ (codes "LDMIA", mnemonic.TransferMultiple true)
    ∷ (codes "B", mnemonic.Branch) ∷ (codes "BL", mnemonic.BranchLink) ∷ (codes "BX", mnemonic.BranchExchange)
    ∷ (codes "BEQ", mnemonic.BranchConditional condition.Eq) ∷ (codes "BNE", mnemonic.BranchConditional condition.Ne)
    ∷ (codes "BCS", mnemonic.BranchConditional condition.Cs) ∷ (codes "BHS", mnemonic.BranchConditional condition.Cs)
    ∷ (codes "BCC", mnemonic.BranchConditional condition.Cc) ∷ (codes "BLO", mnemonic.BranchConditional condition.Cc)
    ∷ (codes "BMI", mnemonic.BranchConditional condition.Mi) ∷ (codes "BPL", mnemonic.BranchConditional condition.Pl)
    ∷ (codes "BVS", mnemonic.BranchConditional condition.Vs) ∷ (codes "BVC", mnemonic.BranchConditional condition.Vc)
    ∷ (codes "BHI", mnemonic.BranchConditional condition.Hi) ∷ (codes "BLS", mnemonic.BranchConditional condition.Ls)
    ∷ (codes "BGE", mnemonic.BranchConditional condition.Ge) ∷ (codes "BLT", mnemonic.BranchConditional condition.Lt)
    ∷ (codes "BGT", mnemonic.BranchConditional condition.Gt) ∷ (codes "BLE", mnemonic.BranchConditional condition.Le)
    ∷ (codes "SWI", mnemonic.SoftwareInterrupt) ∷ (codes "ADR", mnemonic.Address)
    ∷ (codes "NOP", mnemonic.NoOperation) ∷ [])

-- a word of ARM state as one of the FPA
abbrev pub float_word : ArmMnemonic → Option Mnemonic
float_word arm.FloatingPoint = Some mnemonic.FloatingPoint
float_word _ = None

abbrev pub floating : Option (ArmMnemonic × Condition) → Option Mnemonic
floating None = None
floating (Some m) = float_word m.0

-- what an operation word says
unfoldable pub operation_named : List ℕ → Option Mnemonic
operation_named word = or_else (core_named word) (floating (arm_words.operation_named word))
