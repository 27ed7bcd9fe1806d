-- A library: its checks in their order with the offset that each tells, or the record
-- (SDT 2.50 Reference Guide, ARM Object Library Format; the order of the checks is this project's).
use Rattle.std.specs.Prelude.{◌≡◌, ℕ, zero, suc, ◌+◌, ◌-◌, ◌%◌, Bool, true, false, nat_lt, ◌==◌, if◌then◌else◌, List, [], ◌∷◌, ◌++◌, length, take, drop, map, slice_get, min, Option, Some, None, Result, Ok, Err, codes}
use Rattle.std.specs.Option.{ok_or}
use Rattle.std.specs.Str.{bytes_eq}
use Rattle.sdt_word.specs.Bytes.{word_in}
use Rattle.sdt_fault.specs.declared.kinds.FileKind.{FileKind}
use Rattle.sdt_fault.specs.declared.kinds.FileKind.TheVariants as kind
use Rattle.sdt_fault.specs.declared.answer.Fault.{Fault}
use Rattle.sdt_fault.specs.declared.answer.Fault.TheVariants as fault
use Rattle.sdt_fault.specs.declared.refusal.Refusal.{Refusal}
use Rattle.sdt_fault.specs.declared.refusal.Refusal.TheVariants.{BadChunk, BadObject, BadLibrary}
use Rattle.chunk_file.specs.declared.records.Span.{Span}
use Rattle.chunk_file.specs.Reading.{◌>>=◌}
use Rattle.chunk_file.specs.Chunks.{bytes_at, table_of}
use Rattle.aof_object.specs.Names.{terminated, among}
use Rattle.aof_object.specs.Parts.{named, found_of}
use Rattle.aof_object.specs.Objects.{object_of}
use Rattle.aof_object.specs.declared.parts.Found.{Found}
use Rattle.aof_object.specs.declared.parts.Found.TheVariants.{Absent, One, Many}
use Rattle.alf_archive.specs.declared.records.Member.{Member}
use Rattle.alf_archive.specs.declared.records.Archive.{Archive}
use Rattle.alf_archive.specs.declared.entries.Slot.{Slot}

abbrev pub wrong : {A : Type 0} → ℕ → FileKind → Result A Refusal
wrong at k = Err (BadLibrary [] at k)

-- ---- the entries of the directory

-- the head of an entry: chunk index, entry length, data length; both lengths are multiples of 4 and fit
unfoldable pub slot_of : ℕ → ℕ → List ℕ → Result Slot Refusal
slot_of at room row =
    if word_in row 4 % 4 == 0 then (
    if nat_lt (word_in row 4) 12 then wrong (at + 4) kind.Length else (
    if nat_lt room (word_in row 4) then wrong (at + 4) kind.Length else (
    if word_in row 8 % 4 == 0 then (
    if nat_lt (word_in row 4) (12 + word_in row 8) then wrong (at + 8) kind.Length else
    Ok (record { index = word_in row 0; length = word_in row 4; size = word_in row 8 }))
    else wrong (at + 8) kind.Length)))
    else wrong (at + 4) kind.Length

unfoldable pub slot_at : ℕ → List ℕ → ℕ → Result Slot Refusal
slot_at start dir at =
    if nat_lt (length dir) (at + 12) then wrong (start + at) kind.Length else slot_of (start + at) (length dir - at) (drop at dir)

-- ---- members

-- the chunk of a number, where it is one of a member
abbrev pub data_named : Option (Option Span) → Option Span
data_named None = None
data_named (Some None) = None
data_named (Some (Some s)) = if bytes_eq s.name (codes "LIB_DATA") then Some s else None

-- a refusal with its offset in the whole file: an offset that would be 2^32 is told as 2^32 - 1
abbrev pub moved : ℕ → Refusal → Refusal
moved base (BadChunk file at k) = BadChunk file (min (base + at) 0xFFFFFFFF) k
moved base (BadObject file at k) = BadObject file (min (base + at) 0xFFFFFFFF) k
moved base r = r

abbrev pub moved_by : {A : Type 0} → ℕ → Result A Refusal → Result A Refusal
moved_by base (Ok x) = Ok x
moved_by base (Err r) = Err (moved base r)

-- the member of a name in a chunk of the library
unfoldable pub member_in : List ℕ → ℕ → List ℕ → Option Span → Result Member Refusal
member_in b at name None = wrong at kind.Index
member_in b at name (Some s) = moved_by s.offset (object_of (bytes_at b s)) >>= λ o. Ok (record { name = name; object = o })

unfoldable pub member_at : List ℕ → List (Option Span) → (List ℕ → Bool) → ℕ → List ℕ → Slot → Result Member Refusal
member_at b spans taken at text slot =
    ok_or (terminated text) (BadLibrary [] (at + 12) kind.Name) >>= λ name.
    if taken name then wrong (at + 12) kind.Repeated else member_in b at name (data_named (slice_get spans slot.index))

abbrev pub member_names : List Member → List (List ℕ)
member_names ms = map (λ m. m.name) ms

-- the members, and that of the entry at an offset of the file, if it is used, behind them
unfoldable pub with_entry : List ℕ → List (Option Span) → ℕ → List ℕ → List Member → Slot → Result (List Member) Refusal
with_entry b spans at text before slot =
    if slot.index == 0 then Ok before
    else (member_at b spans (λ q. among q (member_names before)) at text slot >>= λ m. Ok (before ++ m ∷ []))

-- the members of the entries from an offset of the directory on; each entry has twelve bytes at least,
-- so that no more turns are needed than the directory has bytes
abbrev pub members_from : List ℕ → List (Option Span) → ℕ → List ℕ → ℕ → ℕ → List Member → Result (List Member) Refusal
members_from b spans start dir zero at before = Ok before
members_from b spans start dir (suc turns) at before =
    if nat_lt at (length dir) then (
    slot_at start dir at >>= λ slot. with_entry b spans (start + at) (take slot.size (drop (at + 12) dir)) before slot >>= λ ms. members_from b spans start dir turns (at + slot.length) ms)
    else Ok before

abbrev pub directory : Found → Result Span Refusal
directory Absent = wrong 0 kind.Chunks
directory (One s) = Ok s
directory Many = wrong 0 kind.Chunks

unfoldable pub archive_of : List ℕ → Result Archive Refusal
archive_of b =
    table_of b >>= λ spans. directory (found_of (named (codes "LIB_DIRY") spans)) >>= λ d.
    members_from b spans d.offset (bytes_at b d) (length (bytes_at b d)) 0 [] >>= λ ms. Ok (record { members = ms })

-- ---- which files are libraries

abbrev pub is_found : Found → Bool
is_found Absent = false
is_found (One s) = true
is_found Many = true

-- the table names a directory, once or more
abbrev pub names_directory : List (Option Span) → Bool
names_directory spans = is_found (found_of (named (codes "LIB_DIRY") spans))

abbrev pub is_library_by : Result (List (Option Span)) Refusal → Bool
is_library_by (Ok spans) = names_directory spans
is_library_by (Err r) = false

-- a file is taken for a library where it is a chunk file whose table names a directory, however faulty it is otherwise
unfoldable pub is_library : List ℕ → Bool
is_library b = is_library_by (table_of b)

-- ---- what calls answer

-- what a call answers, moved so
abbrev pub fault_moved : ℕ → Fault → Fault
fault_moved base fault.NoMemory = fault.NoMemory
fault_moved base (fault.Refused r) = fault.Refused (moved base r)
fault_moved base (fault.ReadFault name) = fault.ReadFault name

-- what a call adds to a list that it was lent is what reading gives, unless memory was refused
abbrev pub Adds : {A : Type 0} → Result (Unit {0}) Fault → List A → Result (List A) Refusal → Type 0
Adds (Ok u) after read = read ≡ Ok after
Adds (Err fault.NoMemory) after read = Unit {0}
Adds (Err (fault.Refused r)) after read = read ≡ Err r
Adds (Err (fault.ReadFault name)) after read = ⊥
