-- The operation words of ARM state: a stem, a condition, and a suffix, in any case. ARM SDT 2.50 Reference Guide,
-- chapter on the assembler, and ARM Architecture Reference Manual. The condition stands before the suffix, and no
-- condition is AL; letters behind the stem that name a condition are one. The floating-point words are those of the
-- FPA, which no state reads. The code has the same tables.
use Rattle.std.specs.Prelude.{ℕ, List, [], ◌∷◌, take, drop, codes, ◌==◌, ◌&&◌, ◌||◌, Bool, true, false, if◌then◌else◌, Option, Some, None}
use Rattle.std.specs.Char.{to_ascii_lowercase}
use Rattle.sdt_word.specs.declared.codes.Condition.{Condition}
use Rattle.sdt_word.specs.declared.codes.Condition.TheVariants as condition
use Rattle.arm_isa.specs.declared.instr.Operation.{Operation}
use Rattle.arm_isa.specs.declared.instr.Operation.TheVariants as operation
use Rattle.arm_isa.specs.declared.instr.HalfKind.{HalfKind}
use Rattle.arm_isa.specs.declared.instr.HalfKind.TheVariants as half
use Rattle.asm_model.specs.declared.operands.BlockMode.{BlockMode}
use Rattle.asm_model.specs.declared.operands.BlockMode.TheVariants as mode
use Rattle.asm_model.specs.Directives.{row_of, or_else}
use Rattle.asm_arm.specs.declared.mnemonics.Mnemonic.{Mnemonic}
use Rattle.asm_arm.specs.declared.mnemonics.Mnemonic.TheVariants as mnemonic
use Rattle.asm_arm.specs.declared.mnemonics.Shape.{Shape}
use Rattle.asm_arm.specs.declared.mnemonics.Shape.TheVariants as shape

-- the condition that a word names
unfoldable pub condition_named : List ℕ → Option Condition
condition_named word = row_of word (
    (codes "EQ", condition.Eq) ∷ (codes "NE", condition.Ne) ∷ (codes "CS", condition.Cs) ∷ (codes "HS", condition.Cs)
    ∷ (codes "CC", condition.Cc) ∷ (codes "LO", condition.Cc) ∷ (codes "MI", condition.Mi)
    ∷ (codes "PL", condition.Pl) ∷ (codes "VS", condition.Vs) ∷ (codes "VC", condition.Vc)
    ∷ (codes "HI", condition.Hi) ∷ (codes "LS", condition.Ls) ∷ (codes "GE", condition.Ge)
    ∷ (codes "LT", condition.Lt) ∷ (codes "GT", condition.Gt) ∷ (codes "LE", condition.Le)
    ∷ (codes "AL", condition.Al) ∷ [])

-- data processing
unfoldable pub data_stem : List ℕ → Option Operation
data_stem word = row_of word (
    (codes "AND", operation.And) ∷ (codes "EOR", operation.Eor) ∷ (codes "SUB", operation.Sub)
    ∷ (codes "RSB", operation.Rsb) ∷ (codes "ADD", operation.Add) ∷ (codes "ADC", operation.Adc)
    ∷ (codes "SBC", operation.Sbc) ∷ (codes "RSC", operation.Rsc) ∷ (codes "TST", operation.Tst)
    ∷ (codes "TEQ", operation.Teq) ∷ (codes "CMP", operation.Cmp) ∷ (codes "CMN", operation.Cmn)
    ∷ (codes "ORR", operation.Orr) ∷ (codes "MOV", operation.Mov) ∷ (codes "BIC", operation.Bic)
    ∷ (codes "MVN", operation.Mvn) ∷ [])

-- multiplication: whether it accumulates
unfoldable pub multiply_stem : List ℕ → Option Bool
multiply_stem word = row_of word (
    (codes "MUL", false) ∷ (codes "MLA", true) ∷ [])

-- long multiplication: whether it is signed, and whether it accumulates
unfoldable pub long_stem : List ℕ → Option (Bool × Bool)
long_stem word = row_of word (
    (codes "UMULL", (false, false)) ∷ (codes "UMLAL", (false, true)) ∷ (codes "SMULL", (true, false))
    ∷ (codes "SMLAL", (true, true)) ∷ [])

-- a transfer: whether it loads
unfoldable pub transfer_stem : List ℕ → Option Bool
transfer_stem word = row_of word (
    (codes "LDR", true) ∷ (codes "STR", false) ∷ [])

-- a transfer of several registers: whether it loads
unfoldable pub block_stem : List ℕ → Option Bool
block_stem word = row_of word (
    (codes "LDM", true) ∷ (codes "STM", false) ∷ [])

-- three letters without a suffix
unfoldable pub plain_stem : List ℕ → Option Mnemonic
plain_stem word = row_of word (
    (codes "MRS", mnemonic.ReadStatus) ∷ (codes "MSR", mnemonic.WriteStatus)
    ∷ (codes "SWI", mnemonic.SoftwareInterrupt) ∷ (codes "ADR", mnemonic.Address) ∷ [])

-- branches of two letters
unfoldable pub branch_stem : List ℕ → Option Mnemonic
branch_stem word = row_of word (
    (codes "BL", mnemonic.Branch true) ∷ (codes "BX", mnemonic.BranchExchange) ∷ [])

-- floating-point operations on two numbers
unfoldable pub float_arithmetic : List ℕ → Option Mnemonic
float_arithmetic word = row_of word (
    (codes "ADF", mnemonic.FloatingPoint) ∷ (codes "MUF", mnemonic.FloatingPoint)
    ∷ (codes "SUF", mnemonic.FloatingPoint) ∷ (codes "RSF", mnemonic.FloatingPoint)
    ∷ (codes "DVF", mnemonic.FloatingPoint) ∷ (codes "RDF", mnemonic.FloatingPoint)
    ∷ (codes "POW", mnemonic.FloatingPoint) ∷ (codes "RPW", mnemonic.FloatingPoint)
    ∷ (codes "RMF", mnemonic.FloatingPoint) ∷ (codes "FML", mnemonic.FloatingPoint)
    ∷ (codes "FDV", mnemonic.FloatingPoint) ∷ (codes "FRD", mnemonic.FloatingPoint)
    ∷ (codes "POL", mnemonic.FloatingPoint) ∷ [])

-- floating-point operations on one number
unfoldable pub float_functions : List ℕ → Option Mnemonic
float_functions word = row_of word (
    (codes "MVF", mnemonic.FloatingPoint) ∷ (codes "MNF", mnemonic.FloatingPoint)
    ∷ (codes "ABS", mnemonic.FloatingPoint) ∷ (codes "RND", mnemonic.FloatingPoint)
    ∷ (codes "SQT", mnemonic.FloatingPoint) ∷ (codes "LOG", mnemonic.FloatingPoint)
    ∷ (codes "LGN", mnemonic.FloatingPoint) ∷ (codes "EXP", mnemonic.FloatingPoint)
    ∷ (codes "SIN", mnemonic.FloatingPoint) ∷ (codes "COS", mnemonic.FloatingPoint)
    ∷ (codes "TAN", mnemonic.FloatingPoint) ∷ (codes "ASN", mnemonic.FloatingPoint)
    ∷ (codes "ACS", mnemonic.FloatingPoint) ∷ (codes "ATN", mnemonic.FloatingPoint)
    ∷ (codes "URD", mnemonic.FloatingPoint) ∷ (codes "NRM", mnemonic.FloatingPoint) ∷ [])

-- floating-point comparisons, transfers, conversions and status registers
unfoldable pub float_transfers : List ℕ → Option Mnemonic
float_transfers word = row_of word (
    (codes "CMF", mnemonic.FloatingPoint) ∷ (codes "CNF", mnemonic.FloatingPoint)
    ∷ (codes "LDF", mnemonic.FloatingPoint) ∷ (codes "STF", mnemonic.FloatingPoint)
    ∷ (codes "FLT", mnemonic.FloatingPoint) ∷ (codes "FIX", mnemonic.FloatingPoint)
    ∷ (codes "WFS", mnemonic.FloatingPoint) ∷ (codes "RFS", mnemonic.FloatingPoint)
    ∷ (codes "WFC", mnemonic.FloatingPoint) ∷ (codes "RFC", mnemonic.FloatingPoint) ∷ [])

-- floating-point comparisons with exceptions
unfoldable pub float_compare : List ℕ → Option Mnemonic
float_compare word = row_of word (
    (codes "CMFE", mnemonic.FloatingPoint) ∷ (codes "CNFE", mnemonic.FloatingPoint) ∷ [])

-- transfers of several floating-point registers
unfoldable pub float_block : List ℕ → Option Mnemonic
float_block word = row_of word (
    (codes "LFM", mnemonic.FloatingPoint) ∷ (codes "SFM", mnemonic.FloatingPoint) ∷ [])

-- the swap
unfoldable pub swap_stem : List ℕ → Option Mnemonic
swap_stem word = row_of word (
    (codes "SWP", mnemonic.Swap false) ∷ [])

-- the long address
unfoldable pub long_address_stem : List ℕ → Option Mnemonic
long_address_stem word = row_of word (
    (codes "ADRL", mnemonic.LongAddress) ∷ [])

-- the branch of one letter
unfoldable pub short_branch_stem : List ℕ → Option Mnemonic
short_branch_stem word = row_of word (
    (codes "B", mnemonic.Branch false) ∷ [])

-- no operation
unfoldable pub idle_word : List ℕ → Option Mnemonic
idle_word word = row_of word (
    (codes "NOP", mnemonic.NoOperation) ∷ [])

-- suffixes: whether the flags are set
unfoldable pub flags_suffix : List ℕ → Option Bool
flags_suffix word = row_of word (
    (codes "", false) ∷ (codes "S", true) ∷ [])

-- whether a byte is swapped
unfoldable pub byte_suffix : List ℕ → Option Bool
byte_suffix word = row_of word (
    (codes "", false) ∷ (codes "B", true) ∷ [])

-- whether a byte is moved, and whether the address is translated
unfoldable pub word_suffix : List ℕ → Option (Bool × Bool)
word_suffix word = row_of word (
    (codes "", (false, false)) ∷ (codes "B", (true, false)) ∷ (codes "T", (false, true)) ∷ (codes "BT", (true, true)) ∷ [])

-- what a load of less than a word moves, but for a plain byte
unfoldable pub load_half : List ℕ → Option HalfKind
load_half word = row_of word (
    (codes "H", half.Half) ∷ (codes "SB", half.SignedByte) ∷ (codes "SH", half.SignedHalf) ∷ [])

-- the same of a store, which has no sign
unfoldable pub store_half : List ℕ → Option HalfKind
store_half word = row_of word (
    (codes "H", half.Half) ∷ [])

-- the order of a load of several registers; of a stack by its kind, full or empty, descending or ascending
unfoldable pub load_mode : List ℕ → Option BlockMode
load_mode word = row_of word (
    (codes "IA", mode.IncrementAfter) ∷ (codes "IB", mode.IncrementBefore) ∷ (codes "DA", mode.DecrementAfter)
    ∷ (codes "DB", mode.DecrementBefore) ∷ (codes "FD", mode.IncrementAfter) ∷ (codes "ED", mode.IncrementBefore)
    ∷ (codes "FA", mode.DecrementAfter) ∷ (codes "EA", mode.DecrementBefore) ∷ [])

-- the same of a store
unfoldable pub store_mode : List ℕ → Option BlockMode
store_mode word = row_of word (
    (codes "IA", mode.IncrementAfter) ∷ (codes "IB", mode.IncrementBefore) ∷ (codes "DA", mode.DecrementAfter)
    ∷ (codes "DB", mode.DecrementBefore) ∷ (codes "FD", mode.DecrementBefore) ∷ (codes "ED", mode.DecrementAfter)
    ∷ (codes "FA", mode.IncrementBefore) ∷ (codes "EA", mode.IncrementAfter) ∷ [])

-- a condition, where its name stands in front, and what stands behind it
abbrev pub parted : Option Condition → List ℕ → Condition × List ℕ
parted (Some c) rest = (c, drop 2 rest)
parted None rest = (condition.Al, rest)

-- what stands behind a stem: a condition and a suffix
abbrev pub ending : List ℕ → Condition × List ℕ
ending rest = parted (condition_named (take 2 rest)) rest

-- a word with a condition
abbrev pub conditioned : Condition → Option Mnemonic → Option (Mnemonic × Condition)
conditioned c None = None
conditioned c (Some m) = Some (m, c)

-- a word whose stem is in a table, from what stands behind the stem and what the stem takes as its suffix
abbrev pub stemmed : {A : Type 0} → (A → List ℕ → Option Mnemonic) → Option A → List ℕ → Option (Mnemonic × Condition)
stemmed suffix None rest = None
stemmed suffix (Some a) rest = conditioned (ending rest).0 (suffix a (ending rest).1)

-- no suffix
abbrev pub bare_suffix : Mnemonic → List ℕ → Option Mnemonic
bare_suffix m [] = Some m
bare_suffix m (c ∷ cs) = None

-- which registers data processing names
abbrev pub shape_of : Operation → Shape
shape_of operation.Tst = shape.Comparison
shape_of operation.Teq = shape.Comparison
shape_of operation.Cmp = shape.Comparison
shape_of operation.Cmn = shape.Comparison
shape_of operation.Mov = shape.Move
shape_of operation.Mvn = shape.Move
shape_of _ = shape.Sum

abbrev pub data_flags : Operation → Option Bool → Option Mnemonic
data_flags o None = None
data_flags o (Some s) = Some (mnemonic.Data o s)

-- a comparison always sets the flags, and has no suffix
abbrev pub shaped_suffix : Shape → Operation → List ℕ → Option Mnemonic
shaped_suffix shape.Comparison o s = bare_suffix (mnemonic.Data o true) s
shaped_suffix shape.Move o s = data_flags o (flags_suffix s)
shaped_suffix shape.Sum o s = data_flags o (flags_suffix s)

abbrev pub data_suffix : Operation → List ℕ → Option Mnemonic
data_suffix o s = shaped_suffix (shape_of o) o s

abbrev pub multiply_suffix : Bool → List ℕ → Option Mnemonic
multiply_suffix accumulate s = with_flags (flags_suffix s)
  where
    with_flags : Option Bool → Option Mnemonic
    with_flags None = None
    with_flags (Some f) = Some (mnemonic.Multiply accumulate f)

abbrev pub long_suffix : Bool × Bool → List ℕ → Option Mnemonic
long_suffix signs s = with_flags (flags_suffix s)
  where
    with_flags : Option Bool → Option Mnemonic
    with_flags None = None
    with_flags (Some f) = Some (mnemonic.MultiplyLong signs.0 signs.1 f)

abbrev pub half_of : Bool → Option HalfKind → Option Mnemonic
half_of load None = None
half_of true (Some k) = Some (mnemonic.LoadHalf k)
half_of false (Some k) = Some mnemonic.StoreHalf

abbrev pub word_of : Bool → Option (Bool × Bool) → Option Mnemonic
word_of load None = None
word_of load (Some p) = Some (mnemonic.Transfer load p.0 p.1)

abbrev pub half_suffix : Bool → List ℕ → Option HalfKind
half_suffix true s = load_half s
half_suffix false s = store_half s

abbrev pub transfer_suffix : Bool → List ℕ → Option Mnemonic
transfer_suffix load s = or_else (word_of load (word_suffix s)) (half_of load (half_suffix load s))

abbrev pub mode_suffix : Bool → List ℕ → Option BlockMode
mode_suffix true s = load_mode s
mode_suffix false s = store_mode s

abbrev pub block_of : Bool → Option BlockMode → Option Mnemonic
block_of load None = None
block_of load (Some m) = Some (mnemonic.TransferBlock load m)

abbrev pub block_suffix : Bool → List ℕ → Option Mnemonic
block_suffix load s = block_of load (mode_suffix load s)

-- single, double, extended or packed
abbrev pub is_precision : ℕ → Bool
is_precision c = c == 115 || c == 100 || c == 101 || c == 112

-- to plus infinity, minus infinity or zero
abbrev pub is_rounding : ℕ → Bool
is_rounding c = c == 112 || c == 109 || c == 122

-- a precision, and a rounding, each of which may be left out
abbrev pub is_float_suffix : List ℕ → Bool
is_float_suffix [] = true
is_float_suffix (a ∷ []) = is_precision (to_ascii_lowercase a) || is_rounding (to_ascii_lowercase a)
is_float_suffix (a ∷ b ∷ []) = is_precision (to_ascii_lowercase a) && is_rounding (to_ascii_lowercase b)
is_float_suffix (a ∷ b ∷ c ∷ s) = false

abbrev pub float_suffix : Mnemonic → List ℕ → Option Mnemonic
float_suffix m s = if is_float_suffix s then Some m else None

-- the order of a transfer of floating-point registers: none, or that of a stack
unfoldable pub float_mode : List ℕ → Option Mnemonic
float_mode word = row_of word (
    (codes "", mnemonic.FloatingPoint) ∷ (codes "FD", mnemonic.FloatingPoint) ∷ (codes "EA", mnemonic.FloatingPoint)
    ∷ [])

abbrev pub float_block_suffix : Mnemonic → List ℕ → Option Mnemonic
float_block_suffix m s = float_mode s

abbrev pub swap_of : Option Bool → Option Mnemonic
swap_of None = None
swap_of (Some b) = Some (mnemonic.Swap b)

abbrev pub swap_suffix : Mnemonic → List ℕ → Option Mnemonic
swap_suffix m s = swap_of (byte_suffix s)

-- words by the length of their stems
unfoldable pub data_named : List ℕ → Option (Mnemonic × Condition)
data_named word = stemmed data_suffix (data_stem (take 3 word)) (drop 3 word)

unfoldable pub multiply_named : List ℕ → Option (Mnemonic × Condition)
multiply_named word = stemmed multiply_suffix (multiply_stem (take 3 word)) (drop 3 word)

unfoldable pub long_named : List ℕ → Option (Mnemonic × Condition)
long_named word = stemmed long_suffix (long_stem (take 5 word)) (drop 5 word)

unfoldable pub transfer_named : List ℕ → Option (Mnemonic × Condition)
transfer_named word = stemmed transfer_suffix (transfer_stem (take 3 word)) (drop 3 word)

unfoldable pub block_named : List ℕ → Option (Mnemonic × Condition)
block_named word = stemmed block_suffix (block_stem (take 3 word)) (drop 3 word)

unfoldable pub swap_named : List ℕ → Option (Mnemonic × Condition)
swap_named word = stemmed swap_suffix (swap_stem (take 3 word)) (drop 3 word)

unfoldable pub plain_named : List ℕ → Option (Mnemonic × Condition)
plain_named word = stemmed bare_suffix (plain_stem (take 3 word)) (drop 3 word)

unfoldable pub long_address_named : List ℕ → Option (Mnemonic × Condition)
long_address_named word = stemmed bare_suffix (long_address_stem (take 4 word)) (drop 4 word)

unfoldable pub branch_named : List ℕ → Option (Mnemonic × Condition)
branch_named word =
    or_else (stemmed bare_suffix (short_branch_stem (take 1 word)) (drop 1 word))
    (stemmed bare_suffix (branch_stem (take 2 word)) (drop 2 word))

-- NOP takes no condition
unfoldable pub idle_named : List ℕ → Option (Mnemonic × Condition)
idle_named word = conditioned condition.Al (idle_word word)

abbrev pub float_stem : List ℕ → Option Mnemonic
float_stem word = or_else (float_arithmetic word) (or_else (float_functions word) (float_transfers word))

unfoldable pub float_named : List ℕ → Option (Mnemonic × Condition)
float_named word =
    or_else (stemmed float_suffix (float_stem (take 3 word)) (drop 3 word))
    (or_else (stemmed float_suffix (float_compare (take 4 word)) (drop 4 word))
    (stemmed float_block_suffix (float_block (take 3 word)) (drop 3 word)))

-- the transfers
unfoldable pub moving_named : List ℕ → Option (Mnemonic × Condition)
moving_named word = or_else (transfer_named word) (or_else (block_named word) (swap_named word))

-- the other words of the integer core
unfoldable pub other_named : List ℕ → Option (Mnemonic × Condition)
other_named word =
    or_else (plain_named word) (or_else (long_address_named word) (or_else (branch_named word) (idle_named word)))

-- what an operation word says, with its condition
unfoldable pub operation_named : List ℕ → Option (Mnemonic × Condition)
operation_named word =
    or_else (data_named word) (or_else (multiply_named word) (or_else (long_named word)
    (or_else (moving_named word) (or_else (other_named word) (float_named word)))))
