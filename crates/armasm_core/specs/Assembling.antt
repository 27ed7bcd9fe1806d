-- One source to one object, or its first fault. A source is judged in passes: its expansion, what its flat lines say and
-- their layout, and its values. The first pass with a fault counts, in it the first line, and there the first kind. SDT
-- 2.50 Reference Guide, chapter on the assembler; the order of faults and the limit are this project's.
use Rattle.std.specs.Prelude.{◌≡◌, ◌⊎◌, ℕ, ◌^◌, ◌<◌, ◌≤◌, ◌==◌, ◌&&◌, List, [], length, codes, Bool, if◌then◌else◌, Option, Some, None, Result, Ok, Err}
use Rattle.std.specs.List.{list_any}
use Rattle.sdt_fault.specs.declared.answer.Fault.{Fault}
use Rattle.sdt_fault.specs.declared.answer.Fault.TheVariants as fault
use Rattle.sdt_fault.specs.declared.kinds.LineKind.{LineKind}
use Rattle.sdt_fault.specs.declared.kinds.LineKind.TheVariants.{NoArea}
use Rattle.sdt_fault.specs.declared.kinds.Quantity.TheVariants.{SourceBytes}
use Rattle.sdt_fault.specs.declared.refusal.Refusal.{Refusal}
use Rattle.sdt_fault.specs.declared.refusal.Refusal.TheVariants.{BadLine, Missing, TooLarge}
use Rattle.sdt_outside.specs.Files.{Files, content, IsMissing}
use Rattle.aof_object.specs.declared.records.Object.{Object}
use Rattle.asm_layout.specs.Front.{front_laid}
use Rattle.asm_model.specs.declared.lines.Flat.{Flat}
use Rattle.asm_model.specs.declared.statements.Statement.{Statement}
use Rattle.asm_model.specs.Directives.{or_else}
use Rattle.asm_model.specs.Forms.{same}
use Rattle.asm_model.specs.Kinds.{earlier}
use Rattle.asm_model.specs.Laid.{reversed}
use Rattle.asm_model.specs.Tokens.{is_called}
use Rattle.asm_reading.specs.declared.flat_lines.Reading.{Reading}
use Rattle.asm_reading.specs.declared.flat_lines.Unread.{Unread}
use Rattle.asm_reading.specs.FlatLines.{IsReading}
use Rattle.expand_model.specs.Expands.{Outcome, Flats, FaultAt, MissingFile, Expands}
use Rattle.expand_model.specs.Gets.{GetsFile}
use Rattle.expand_model.specs.Steps.{Sources, visit_limit}
use Rattle.expand_model.specs.Words.{words_of}
use Rattle.source_model.specs.Objects.{IsObject}
use Rattle.source_model.specs.SourceFaults.{layout_faults, value_faults}

-- the most bytes of a source
abbrev pub most_bytes : ℕ
most_bytes = 2 ^ 24

-- ---- what flat lines say

-- the statements, of which the last is listed first
abbrev pub said_by : Reading → List Statement
said_by r = reversed r.statements.items []

-- whether a line's operation is AREA, also where the line can't be read
abbrev pub says_area : Flat → Bool
says_area f = is_called (codes "AREA") (words_of f.text).operation

-- ---- its faults

abbrev pub told : Option (Statement × LineKind) → Option Refusal
told None = None
told (Some t) = Some (BadLine t.0.source t.0.number t.1)

abbrev pub unread_told : Unread → Refusal
unread_told u = BadLine u.source u.number u.kind

-- of reading and layout: where a line can't be read, faults of layout count that are told at the lines before it
abbrev pub line_faults : List Statement → ℕ → Option Unread → Option Refusal
line_faults statements before None = told (layout_faults statements)
line_faults statements before (Some u) = or_else (told (front_laid statements before)) (Some (unread_told u))

-- of a source without an AREA, the first line has this fault beside any other; a fault of another file is none of it
abbrev pub without_area : List ℕ → Option Refusal → Refusal
without_area name (Some (BadLine source number kind)) =
    BadLine name 1 (if same source name && number == 1 then earlier NoArea kind else NoArea)
without_area name _ = BadLine name 1 NoArea

-- of a reading of these flat lines
abbrev pub reading_faults : List ℕ → List Flat → Reading → Option Refusal
reading_faults name flats r =
    if list_any says_area flats then line_faults (said_by r) r.before r.unread
    else Some (without_area name (line_faults (said_by r) r.before r.unread))

abbrev pub source_faults : List ℕ → List Flat → Reading → Option Refusal
source_faults name flats r = or_else (reading_faults name flats r) (told (value_faults (said_by r)))

-- ---- its object

-- what a reading of the flat lines makes: its first fault, or the object of its statements
abbrev pub ReadingMakes : List ℕ → List Flat → Reading → Result Object Refusal → Type 0
ReadingMakes name flats r (Ok o) = (source_faults name flats r ≡ None) × IsObject (said_by r) o
ReadingMakes name flats r (Err refusal) = source_faults name flats r ≡ Some refusal

-- what the flat lines of the source of this name make
pub record FlatsMake (name : List ℕ) (flats : List Flat) (made : Result Object Refusal) : Type 0 where
  pub reading : Reading
  pub says : IsReading flats reading
  pub makes : ReadingMakes name flats reading made

-- what an outcome of its expansion makes
abbrev pub OutcomeMakes : List ℕ → Outcome → Result Object Refusal → Type 0
OutcomeMakes name (Flats flats) made = FlatsMake name flats made
OutcomeMakes name (FaultAt file number kind) made = made ≡ Err (BadLine file number kind)
OutcomeMakes name (MissingFile file) made = made ≡ Err (Missing file)

-- what a source makes whose expansion has such an outcome; a text that is too long is not expanded
abbrev pub MakesBy : (Outcome → Type 0) → List ℕ → List ℕ → Result Object Refusal → Type 0
MakesBy Has name text made =
    ((most_bytes < length text) × (made ≡ Err (TooLarge SourceBytes most_bytes)))
    ⊎ ((length text ≤ most_bytes) × (o : Outcome) × Has o × OutcomeMakes name o made)

-- the object of a source with these files, or its first refusal
abbrev pub IsAssembled : Sources → List ℕ → List ℕ → Result Object Refusal → Type 0
IsAssembled sources name text made = MakesBy (Expands sources visit_limit name text) name text made

-- the outcomes that a source may have by the files that a store tells; where it tells none, two reads of one name are tied
-- by nothing, and each outcome may be
abbrev pub MayExpand : Option Files → List ℕ → List ℕ → Outcome → Type 0
MayExpand None name text o = Unit {0}
MayExpand (Some files) name text o = Expands (content files) visit_limit name text o

-- the object of a source over a store that tells these files, or its first refusal
abbrev pub AssembledFrom : Option Files → List ℕ → List ℕ → Result Object Refusal → Type 0
AssembledFrom told name text made = MakesBy (MayExpand told name text) name text made

-- ---- a call

-- a file that the source gets, by the files that a store tells; where it tells none, it may be any
abbrev pub MayGet : Option Files → List ℕ → List ℕ → List ℕ → Type 0
MayGet None name text file = Unit {0}
MayGet (Some files) name text file = (length text ≤ most_bytes) × GetsFile (content files) visit_limit name text file

-- what a call answers; a file that could not be read is one that the source gets; want of memory tells nothing of it
abbrev pub Assembles : Option Files → List ℕ → List ℕ → Result Object Fault → Type 0
Assembles told name text (Ok o) = AssembledFrom told name text (Ok o)
Assembles told name text (Err (fault.Refused r)) = AssembledFrom told name text (Err r)
Assembles told name text (Err (fault.ReadFault file)) = MayGet told name text file
Assembles told name text (Err fault.NoMemory) = Unit {0}

-- an error has its cause, where the count of read faults rose as told: a file is missing, or a read failed
abbrev pub IsCaused : Option Files → Type 0 → Fault → Type 0
IsCaused told rose (fault.Refused (Missing file)) = IsMissing told file rose
IsCaused told rose (fault.Refused _) = Unit {0}
IsCaused told rose (fault.ReadFault file) = rose
IsCaused told rose fault.NoMemory = Unit {0}

-- a source has one object, or one first refusal
abbrev pub OneAssembly : Type 0
OneAssembly =
    (sources : Sources) (name text : List ℕ) (a b : Result Object Refusal)
    → IsAssembled sources name text a → IsAssembled sources name text b → a ≡ b
