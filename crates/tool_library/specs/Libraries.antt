-- What the librarian's commands make of files. This project's.
use Rattle.std.specs.Prelude.{◌≡◌, ℕ, ◌<◌, if◌then◌else◌, List, [], ◌∷◌, ◌++◌, length, slice_index_or, bytes_eq}
use Rattle.std.specs.Prelude.{Option, Some, None, Result, Ok, Err}
use Rattle.std.specs.List.{flat_map}
use Rattle.sdt_fault.specs.declared.answer.Answer.{Answer}
use Rattle.sdt_fault.specs.declared.answer.Answer.TheVariants as answer
use Rattle.sdt_fault.specs.declared.answer.Fault.{Fault}
use Rattle.sdt_fault.specs.declared.answer.Fault.TheVariants as fault
use Rattle.sdt_fault.specs.declared.refusal.Refusal.{Refusal}
use Rattle.sdt_fault.specs.declared.refusal.Refusal.TheVariants.{Missing}
use Rattle.sdt_outside.specs.Files.{Files}
use Rattle.chunk_file.specs.Reading.{◌>>=◌}
use Rattle.aof_object.specs.Objects.{object_of}
use Rattle.aof_object.specs.Spelling as object
use Rattle.alf_archive.specs.declared.records.Member.{Member}
use Rattle.alf_archive.specs.Archives.{archive_of}
use Rattle.alf_archive.specs.Spelling as library
use Rattle.tool_answers.specs.declared.inputs.InputEnd.{InputEnd}
use Rattle.tool_answers.specs.declared.inputs.InputEnd.TheVariants as end
use Rattle.tool_answers.specs.Inputs.{input_of, inputs_of, named}
use Rattle.tool_answers.specs.Outcomes.{Outcome, writes_one, prints_only}

-- what a reader gives of a file, with the file's name in a refusal
abbrev pub named_by : {A : Type 0} → List ℕ → Result A Refusal → Result A Refusal
named_by name (Ok x) = Ok x
named_by name (Err r) = Err (named name r)

-- ---- a new library

-- an object file as a member under the file's name
abbrev pub member_of : List ℕ → List ℕ → Result Member Refusal
member_of name bytes = named_by name (object_of bytes) >>= λ o. Ok (record { name = name; object = o })

-- the members that files make, in order
abbrev pub members_of : List (List ℕ) → List (List ℕ) → Result (List Member) Refusal
members_of [] contents = Ok []
members_of (n ∷ ns) [] = Ok []
members_of (n ∷ ns) (b ∷ bs) = member_of n b >>= λ m. members_of ns bs >>= λ ms. Ok (m ∷ ms)

-- the library of these files
abbrev pub library_of : List (List ℕ) → List (List ℕ) → Result (List ℕ) Refusal
library_of names contents = members_of names contents >>= λ ms. library.written (record { members = ms })

abbrev pub creates : List ℕ → List (List ℕ) → List (List ℕ) → Result Outcome Refusal
creates output names contents = library_of names contents >>= λ bytes. Ok (writes_one output bytes)

abbrev pub created : List ℕ → List (List ℕ) → Files → Result Outcome Refusal
created output names files = inputs_of files names >>= creates output names

-- ---- the members' names

abbrev pub names_text : List Member → List ℕ
names_text ms = flat_map (λ m. m.name ++ 10 ∷ []) ms

abbrev pub listing : List ℕ → List ℕ → Result (List ℕ) Refusal
listing name bytes = named_by name (archive_of bytes) >>= λ a. Ok (names_text a.members)

abbrev pub lists : List ℕ → List ℕ → Result Outcome Refusal
lists name bytes = listing name bytes >>= λ text. Ok (prints_only text)

abbrev pub listed : List ℕ → Files → Result Outcome Refusal
listed name files = input_of files name >>= lists name

-- ---- a member as an object

abbrev pub member_named : List ℕ → List Member → Result Member Refusal
member_named name [] = Err (Missing name)
member_named name (m ∷ ms) = if bytes_eq m.name name then Ok m else member_named name ms

abbrev pub extract_from : List ℕ → List Member → Result (List ℕ) Refusal
extract_from member ms = member_named member ms >>= λ m. object.written m.object

abbrev pub extract : List ℕ → List ℕ → List ℕ → Result (List ℕ) Refusal
extract name member bytes = named_by name (archive_of bytes) >>= λ a. extract_from member a.members

abbrev pub extracts : List ℕ → List ℕ → List ℕ → List ℕ → Result Outcome Refusal
extracts name member output bytes = extract name member bytes >>= λ o. Ok (writes_one output o)

abbrev pub extracted : List ℕ → List ℕ → List ℕ → Files → Result Outcome Refusal
extracted name member output files = input_of files name >>= extracts name member output

-- ---- ends

-- the answer where an input was not read, and where a file is refused
abbrev pub end_answer : InputEnd → Answer
end_answer (end.Missing name) = answer.Refused (Missing name)
end_answer (end.Failed name) = answer.ReadFault name
end_answer end.NoMemory = answer.NoMemory

abbrev pub fault_answer : Fault → Answer
fault_answer (fault.Refused r) = answer.Refused r
fault_answer (fault.ReadFault name) = answer.ReadFault name
fault_answer fault.NoMemory = answer.NoMemory

-- a reader's fault with the name of the file, unless memory was refused
abbrev pub NamesFault : List ℕ → Fault → Fault → Type 0
NamesFault name (fault.Refused r) (fault.Refused q) = q ≡ named name r
NamesFault name (fault.ReadFault n) (fault.ReadFault q) = q ≡ n
NamesFault name before fault.NoMemory = Unit {0}
NamesFault name before other = ⊥

-- the refusal of a member that isn't there, unless memory was refused
abbrev pub IsMissing : Fault → List ℕ → Type 0
IsMissing (fault.Refused r) name = r ≡ Missing name
IsMissing (fault.ReadFault n) name = ⊥
IsMissing fault.NoMemory name = Unit {0}

-- the place of the first member of a name
abbrev pub IsPlaced : Option ℕ → List ℕ → List Member → Type 0
IsPlaced None name ms = member_named name ms ≡ Err (Missing name)
IsPlaced (Some place) name ms = (place < length ms) × ((m : Member) → m ≡ slice_index_or ms place m → member_named name ms ≡ Ok m)
