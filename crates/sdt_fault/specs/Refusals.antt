-- The number, the word and the fields of each refusal, and its text: `refused`, these three, with one
-- space between. Addresses, offsets, sizes, maxima and limits are hexadecimal; lines and places decimal.
-- This project's. A table, as in the code.
use Rattle.std.specs.Prelude.{ℕ, List, [], ◌∷◌, ◌++◌, codes}
use Rattle.std.specs.List.{flat_map}
use Rattle.std.specs.Fmt.{decimal}
use Rattle.sdt_fault.specs.declared.refusal.Refusal.{Refusal}
use Rattle.sdt_fault.specs.declared.refusal.Refusal.TheVariants.{BadWords, BadLine, BadChunk, BadObject, BadLibrary, Duplicate, Undefined, NoEntry, TwoEntries, ScatterLine, Unassigned, Ambiguous, Overlap, Overfull, NoRoot, CopyConflict, TooLarge, NotInterworking, Unreachable, FieldOverflow, BadRelocation, NotRelocatable, BadImage, BankOverlap, NoRoom, Missing, NotWritable, BadCommand, BadRecord}
use Rattle.sdt_fault.specs.Digits.{hexadecimal}
use Rattle.sdt_fault.specs.Kinds.{line_word, file_word, scatter_word, quantity_word, command_word, record_word}

-- the number of a refusal
abbrev pub number_of : Refusal → ℕ
number_of (BadWords place) = 1
number_of (BadLine source line kind) = 2
number_of (BadChunk file offset kind) = 3
number_of (BadObject file offset kind) = 4
number_of (BadLibrary file offset kind) = 5
number_of (Duplicate symbol first second) = 6
number_of (Undefined symbol object) = 7
number_of NoEntry = 8
number_of (TwoEntries first second) = 9
number_of (ScatterLine line kind) = 10
number_of (Unassigned object area) = 11
number_of (Ambiguous object area first second) = 12
number_of (Overlap first second address) = 13
number_of (Overfull region size maximum) = 14
number_of (NoRoot region) = 15
number_of (CopyConflict first second address) = 16
number_of (TooLarge quantity limit) = 17
number_of (NotInterworking symbol area) = 18
number_of (Unreachable object area offset symbol) = 19
number_of (FieldOverflow object area offset) = 20
number_of (BadRelocation object area offset) = 21
number_of (NotRelocatable object area offset) = 22
number_of (BadImage file offset kind) = 23
number_of (BankOverlap address) = 24
number_of (NoRoom address) = 25
number_of (Missing name) = 26
number_of (NotWritable region address) = 27
number_of (BadCommand file line kind) = 28
number_of (BadRecord file line kind) = 29

-- its word
abbrev pub word_of : Refusal → List ℕ
word_of (BadWords place) = codes "BadWords"
word_of (BadLine source line kind) = codes "BadLine"
word_of (BadChunk file offset kind) = codes "BadChunk"
word_of (BadObject file offset kind) = codes "BadObject"
word_of (BadLibrary file offset kind) = codes "BadLibrary"
word_of (Duplicate symbol first second) = codes "Duplicate"
word_of (Undefined symbol object) = codes "Undefined"
word_of NoEntry = codes "NoEntry"
word_of (TwoEntries first second) = codes "TwoEntries"
word_of (ScatterLine line kind) = codes "ScatterLine"
word_of (Unassigned object area) = codes "Unassigned"
word_of (Ambiguous object area first second) = codes "Ambiguous"
word_of (Overlap first second address) = codes "Overlap"
word_of (Overfull region size maximum) = codes "Overfull"
word_of (NoRoot region) = codes "NoRoot"
word_of (CopyConflict first second address) = codes "CopyConflict"
word_of (TooLarge quantity limit) = codes "TooLarge"
word_of (NotInterworking symbol area) = codes "NotInterworking"
word_of (Unreachable object area offset symbol) = codes "Unreachable"
word_of (FieldOverflow object area offset) = codes "FieldOverflow"
word_of (BadRelocation object area offset) = codes "BadRelocation"
word_of (NotRelocatable object area offset) = codes "NotRelocatable"
word_of (BadImage file offset kind) = codes "BadImage"
word_of (BankOverlap address) = codes "BankOverlap"
word_of (NoRoom address) = codes "NoRoom"
word_of (Missing name) = codes "Missing"
word_of (NotWritable region address) = codes "NotWritable"
word_of (BadCommand file line kind) = codes "BadCommand"
word_of (BadRecord file line kind) = codes "BadRecord"

-- its fields as they are printed, in order
abbrev pub fields_of : Refusal → List (List ℕ)
fields_of (BadWords place) = (decimal place) ∷ []
fields_of (BadLine source line kind) = source ∷ (decimal line) ∷ (line_word kind) ∷ []
fields_of (BadChunk file offset kind) = file ∷ (hexadecimal offset) ∷ (file_word kind) ∷ []
fields_of (BadObject file offset kind) = file ∷ (hexadecimal offset) ∷ (file_word kind) ∷ []
fields_of (BadLibrary file offset kind) = file ∷ (hexadecimal offset) ∷ (file_word kind) ∷ []
fields_of (Duplicate symbol first second) = symbol ∷ first ∷ second ∷ []
fields_of (Undefined symbol object) = symbol ∷ object ∷ []
fields_of NoEntry = []
fields_of (TwoEntries first second) = first ∷ second ∷ []
fields_of (ScatterLine line kind) = (decimal line) ∷ (scatter_word kind) ∷ []
fields_of (Unassigned object area) = object ∷ area ∷ []
fields_of (Ambiguous object area first second) = object ∷ area ∷ (decimal first) ∷ (decimal second) ∷ []
fields_of (Overlap first second address) = first ∷ second ∷ (hexadecimal address) ∷ []
fields_of (Overfull region size maximum) = region ∷ (hexadecimal size) ∷ (hexadecimal maximum) ∷ []
fields_of (NoRoot region) = region ∷ []
fields_of (CopyConflict first second address) = first ∷ second ∷ (hexadecimal address) ∷ []
fields_of (TooLarge quantity limit) = (quantity_word quantity) ∷ (hexadecimal limit) ∷ []
fields_of (NotInterworking symbol area) = symbol ∷ area ∷ []
fields_of (Unreachable object area offset symbol) = object ∷ area ∷ (hexadecimal offset) ∷ symbol ∷ []
fields_of (FieldOverflow object area offset) = object ∷ area ∷ (hexadecimal offset) ∷ []
fields_of (BadRelocation object area offset) = object ∷ area ∷ (hexadecimal offset) ∷ []
fields_of (NotRelocatable object area offset) = object ∷ area ∷ (hexadecimal offset) ∷ []
fields_of (BadImage file offset kind) = file ∷ (hexadecimal offset) ∷ (file_word kind) ∷ []
fields_of (BankOverlap address) = (hexadecimal address) ∷ []
fields_of (NoRoom address) = (hexadecimal address) ∷ []
fields_of (Missing name) = name ∷ []
fields_of (NotWritable region address) = region ∷ (hexadecimal address) ∷ []
fields_of (BadCommand file line kind) = file ∷ (decimal line) ∷ (command_word kind) ∷ []
fields_of (BadRecord file line kind) = file ∷ (decimal line) ∷ (record_word kind) ∷ []

-- pieces with a space before each
abbrev pub spaced : List (List ℕ) → List ℕ
spaced pieces = flat_map (λ piece. 32 ∷ piece) pieces

unfoldable pub refusal_text : Refusal → List ℕ
refusal_text r = codes "refused" ++ spaced (decimal (number_of r) ∷ word_of r ∷ fields_of r)
