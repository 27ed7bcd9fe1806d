-- ELF executables, as a relation between their bytes and a record: the checks that a file meets, and the fields of its
-- header and of its program headers (System V Application Binary Interface, Object Files: ELF Header, Program Header;
-- ELF for the ARM Architecture; which fields are judged, the order of the checks, and what is told of each that fails,
-- are this project's). Words and half-words are little-endian, and places are offsets in bytes.
use Rattle.std.specs.Prelude.{◌≡◌, ◌⊎◌, ℕ, zero, suc, ◌+◌, ◌*◌, ◌%◌, ◌^◌, ◌<◌, ◌≤◌, ◌==◌, if◌then◌else◌, List, [], ◌∷◌, ◌++◌, length, slice_index}
use Rattle.std.specs.List.{AllByRecursion}
use Rattle.sdt_word.specs.Bytes.{half_in, word_in}
use Rattle.sdt_fault.specs.declared.kinds.FileKind.{FileKind}
use Rattle.sdt_fault.specs.declared.kinds.FileKind.TheVariants as kind
use Rattle.sdt_fault.specs.declared.refusal.Refusal.{Refusal}
use Rattle.sdt_fault.specs.declared.refusal.Refusal.TheVariants.{BadImage}
use Rattle.elf_image.specs.declared.records.Elf.{Elf}
use Rattle.elf_image.specs.declared.records.Segment.{Segment}

-- ---- fields of the header

-- e_entry, e_phoff, e_phentsize and e_phnum
abbrev pub entry_of : List ℕ → ℕ
entry_of b = word_in b 0x18

abbrev pub table_at : List ℕ → ℕ
table_at b = word_in b 0x1C

abbrev pub header_size : List ℕ → ℕ
header_size b = half_in b 0x2A

abbrev pub header_count : List ℕ → ℕ
header_count b = half_in b 0x2C

-- ---- program headers, counted from 0

abbrev pub header_at : List ℕ → ℕ → ℕ
header_at b k = table_at b + 32 * k

-- p_type is PT_LOAD
abbrev pub IsLoad : List ℕ → ℕ → Type 0
IsLoad b at = word_in b at ≡ 1

-- p_offset, p_paddr, p_filesz, p_memsz and p_flags
abbrev pub segment_at : List ℕ → ℕ → Segment
segment_at b at = record {
  offset = word_in b (at + 4);
  address = word_in b (at + 12);
  file_size = word_in b (at + 16);
  memory_size = word_in b (at + 20);
  flags = word_in b (at + 24);
}

abbrev pub segment_in : List ℕ → ℕ → Segment
segment_in b k = segment_at b (header_at b k)

abbrev pub loaded_at : List ℕ → ℕ → List Segment
loaded_at b at = if word_in b at == 1 then segment_at b at ∷ [] else []

-- the segments that the first k headers load, in order
abbrev pub segments_before : List ℕ → ℕ → List Segment
segments_before b zero = []
segments_before b (suc k) = segments_before b k ++ loaded_at b (header_at b k)

-- ---- segments

-- its bytes lie in a file of that length, they fit its memory, and that ends at 2^32 or below
pub record IsSegment (size : ℕ) (s : Segment) : Type 0 where
  pub within : (s.file_size ≡ 0) ⊎ (s.offset + s.file_size ≤ size)
  pub held : s.file_size ≤ s.memory_size
  pub in_space : s.address + s.memory_size ≤ 2 ^ 32

abbrev pub InMemory : Segment → ℕ → Type 0
InMemory s a = (s.address ≤ a) × (a < s.address + s.memory_size)

-- no address is in both
abbrev pub IsApart : Segment → Segment → Type 0
IsApart s t = (a : ℕ) → InMemory s a → InMemory t a → ⊥

-- ---- the checks

pub data Check : Type 0 where
  Long : Check
  Magic : Check
  Class : Check
  Executable : Check
  Arm : Check
  HeaderSize : Check
  Table : Check
  Fits : ℕ → Check
  Apart : ℕ → Check
  Enters : Check

-- those of the header, those of n program headers from the k-th on, and all of a file
abbrev pub head_checks : List Check
head_checks = Long ∷ Magic ∷ Class ∷ Executable ∷ Arm ∷ HeaderSize ∷ Table ∷ []

abbrev pub load_checks : ℕ → ℕ → List Check
load_checks k zero = []
load_checks k (suc n) = Fits k ∷ Apart k ∷ load_checks (suc k) n

abbrev pub checks : List ℕ → List Check
checks b = head_checks ++ (load_checks 0 (header_count b) ++ Enters ∷ [])

-- The file has a header; it is of ELF, of 32 bits and little-endian, an executable and for ARM; program headers, where
-- there are any, have 32 bytes and lie in the file; what a header loads is a segment, which meets none of an earlier one;
-- the entry is one of ARM state at a whole word, or of Thumb state.
abbrev pub Holds : Check → List ℕ → Type 0
Holds Long b = 52 ≤ length b
Holds Magic b = word_in b 0 ≡ 0x464C457F
Holds Class b = (slice_index b 4 ≡ 1) × (slice_index b 5 ≡ 1)
Holds Executable b = half_in b 0x10 ≡ 2
Holds Arm b = half_in b 0x12 ≡ 40
Holds HeaderSize b = (header_count b ≡ 0) ⊎ (header_size b ≡ 32)
Holds Table b = (header_count b ≡ 0) ⊎ (header_at b (header_count b) ≤ length b)
Holds (Fits k) b = IsLoad b (header_at b k) → IsSegment (length b) (segment_in b k)
Holds (Apart k) b =
    IsLoad b (header_at b k) → AllByRecursion (IsApart (segment_in b k)) (segments_before b k)
Holds Enters b = entry_of b % 4 ≡ 2 → ⊥

-- what is told where a check fails: an offset and a kind
abbrev pub place_of : Check → List ℕ → ℕ
place_of Long b = length b
place_of Magic b = 0
place_of Class b = 4
place_of Executable b = 0x10
place_of Arm b = 0x12
place_of HeaderSize b = 0x2A
place_of Table b = 0x1C
place_of (Fits k) b = header_at b k
place_of (Apart k) b = header_at b k
place_of Enters b = 0x18

abbrev pub kind_of : Check → FileKind
kind_of Long = kind.Short
kind_of Magic = kind.Magic
kind_of Class = kind.Class
kind_of Executable = kind.ElfType
kind_of Arm = kind.Machine
kind_of HeaderSize = kind.Headers
kind_of Table = kind.Headers
kind_of (Fits k) = kind.Segment
kind_of (Apart k) = kind.Overlap
kind_of Enters = kind.Entry

abbrev pub told : Check → List ℕ → Refusal
told c b = BadImage [] (place_of c b) (kind_of c)

-- the check fails, and those before it hold
pub record IsFirstFailed (b : List ℕ) (c : Check) : Type 0 where
  pub before : List Check
  pub after : List Check
  pub order : checks b ≡ before ++ c ∷ after
  pub held : AllByRecursion (λ d. Holds d b) before
  pub failed : Holds c b → ⊥

-- ---- what is read

-- The bytes are an executable of this record. Nothing judges sections, flags, alignment, or headers of other types.
pub record ReadsElf (b : List ℕ) (e : Elf) : Type 0 where
  pub checked : AllByRecursion (λ c. Holds c b) (checks b)
  pub entry : e.entry ≡ entry_of b
  pub segments : e.segments ≡ segments_before b (header_count b)
