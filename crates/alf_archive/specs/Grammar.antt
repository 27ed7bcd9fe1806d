-- What a library says, as a relation between its bytes and a record, apart from how it is read
-- (SDT 2.50 Reference Guide, ARM Object Library Format).
use Rattle.std.specs.Prelude.{◌≡◌, ◌≢◌, ◌↔◌, ◌⊎◌, ℕ, ◌+◌, ◌%◌, ◌^◌, ◌<◌, ◌≤◌, List, [], ◌∷◌, ◌++◌, length, take, drop, slice_get, Option, Some, Ok, codes}
use Rattle.std.specs.List.{AllByRecursion}
use Rattle.sdt_word.specs.Bytes.{word_in}
use Rattle.chunk_file.specs.declared.records.Span.{Span}
use Rattle.chunk_file.specs.Reading.{EachStands}
use Rattle.chunk_file.specs.Chunks.{bytes_at}
use Rattle.chunk_file.specs.Grammar.{ReadsTable}
use Rattle.aof_object.specs.Names.{IsText, Lacks}
use Rattle.aof_object.specs.Parts.{named}
use Rattle.aof_object.specs.Validity as object
use Rattle.aof_object.specs.Grammar as grammar
use Rattle.aof_object.specs.Grammar.{ReadsObject}
use Rattle.alf_archive.specs.declared.records.Member.{Member}
use Rattle.alf_archive.specs.declared.records.Archive.{Archive}
use Rattle.alf_archive.specs.declared.entries.Slot.{Slot}
use Rattle.alf_archive.specs.Archives.{member_names, archive_of}
use Rattle.alf_archive.specs.Spelling.{spelled}

-- ---- entries

-- an entry's chunk index, length and data length stand at an offset of the directory, which holds it
pub record SaysSlot (dir : List ℕ) (at : ℕ) (s : Slot) : Type 0 where
  pub chunk_index : s.index ≡ word_in (drop at dir) 0
  pub entry_length : s.length ≡ word_in (drop at dir) 4
  pub text_length : s.size ≡ word_in (drop at dir) 8
  pub entry_words : s.length % 4 ≡ 0
  pub text_words : s.size % 4 ≡ 0
  pub fits : 12 + s.size ≤ s.length
  pub within : at + s.length ≤ length dir

-- its data, which begins with a name and a zero byte where the entry is used
abbrev pub text_of : List ℕ → ℕ → Slot → List ℕ
text_of dir at s = take s.size (drop (at + 12) dir)

-- a member's name is a new one, and its object stands in the chunk of this number
pub record SaysMember (b : List ℕ) (spans : List (Option Span)) (names : List (List ℕ)) (index : ℕ) (text : List ℕ) (m : Member) : Type 0 where
  pub is_text : IsText m.name
  pub name : (rest : List ℕ) × (text ≡ m.name ++ (0 ∷ rest))
  pub fresh : Lacks names m.name
  pub chunk : (s : Span) × (slice_get spans index ≡ Some (Some s)) × (s.name ≡ codes "LIB_DATA") × ReadsObject (bytes_at b s) m.object

-- an entry with chunk index 0 is unused; each other one adds a member
abbrev pub SaysUse : List ℕ → List (Option Span) → List ℕ → ℕ → List Member → Slot → List Member → Type 0
SaysUse b spans dir at before s after =
    ((s.index ≡ 0) × (after ≡ before))
    ⊎ ((m : Member) × (s.index ≢ 0) × SaysMember b spans (member_names before) s.index (text_of dir at s) m × (after ≡ before ++ m ∷ []))

-- the entries stand one after the other from an offset of the directory to its end, and lead from the
-- members before them to all
abbrev pub SayMembers : List ℕ → List (Option Span) → List ℕ → List Slot → ℕ → List Member → List Member → Type 0
SayMembers b spans dir [] at before all = (at ≡ length dir) × (all ≡ before)
SayMembers b spans dir (s ∷ ss) at before all =
    (after : List Member) × SaysSlot dir at s × SaysUse b spans dir at before s after × SayMembers b spans dir ss (at + s.length) after all

-- ---- the whole

-- the bytes are a library of these members: the directory stands once
abbrev pub ReadsArchive : List ℕ → Archive → Type 0
ReadsArchive b a =
    (spans : List (Option Span)) × (d : Span) × (slots : List Slot)
    × ReadsTable b spans × (named (codes "LIB_DIRY") spans ≡ d ∷ []) × SayMembers b spans (bytes_at b d) slots 0 [] a.members

-- ---- the laws

abbrev pub ArchiveLaw : Type 0
ArchiveLaw = (b : List ℕ) (a : Archive) → (archive_of b ≡ Ok a) ↔ ReadsArchive b a

-- bytes have at most one record
abbrev pub OneRecord : Type 0
OneRecord = (b : List ℕ) (a c : Archive) → ReadsArchive b a → ReadsArchive b c → a ≡ c

-- ---- what is spelled

-- the members' names differ and hold no zero byte, and their objects are valid
pub record IsValid (a : Archive) : Type 0 where
  pub fresh : EachStands (λ before m. Lacks (member_names before) m.name) [] a.members
  pub names : AllByRecursion (λ m. IsText m.name) a.members
  pub objects : AllByRecursion (λ m. object.IsValid m.object) a.members

-- the numbers of its objects are words, as those of the program's records are
abbrev pub Fits : Archive → Type 0
Fits a = AllByRecursion (λ m. grammar.Fits m.object) a.members

-- what is spelled is read
abbrev pub SpellingLaw : Type 0
SpellingLaw = (a : Archive) → IsValid a → Fits a → length (spelled a) < 2 ^ 32 → ReadsArchive (spelled a) a
