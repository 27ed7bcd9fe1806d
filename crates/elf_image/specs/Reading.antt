-- How an ELF executable is read: the record, or what is told of the first check that fails. The laws at the end say
-- that this is what `Checks` says. This project's.
use Rattle.std.specs.Prelude.{◌≡◌, ◌↔◌, ℕ, ◌+◌, ◌%◌, ◌^◌, ◌==◌, ◌&&◌, ◌||◌, not, nat_le, nat_lt, Bool, if◌then◌else◌, List, [], ◌∷◌, length, slice_index, Option, Some, None, Result, Ok, Err}
use Rattle.std.specs.List.{list_any}
use Rattle.sdt_word.specs.Bytes.{half_in, word_in}
use Rattle.sdt_fault.specs.declared.answer.Fault.{Fault}
use Rattle.sdt_fault.specs.declared.answer.Fault.TheVariants as fault
use Rattle.sdt_fault.specs.declared.kinds.FileKind.TheVariants as kind
use Rattle.sdt_fault.specs.declared.refusal.Refusal.{Refusal}
use Rattle.sdt_fault.specs.declared.refusal.Refusal.TheVariants.{BadImage}
use Rattle.chunk_file.specs.Reading.{◌>>=◌}
use Rattle.elf_image.specs.declared.records.Elf.{Elf}
use Rattle.elf_image.specs.declared.records.Segment.{Segment}
use Rattle.elf_image.specs.Checks.{Check, Long, Magic, Class, Executable, Arm, HeaderSize, Table, Fits, Apart, Enters, head_checks, load_checks, entry_of, header_at, header_count, header_size, segment_at, segment_in, segments_before, told, IsFirstFailed, ReadsElf}

-- ---- what a check says

abbrev pub has_class : List ℕ → Bool
has_class b = slice_index b 4 == 1 && slice_index b 5 == 1

abbrev pub has_header_size : List ℕ → Bool
has_header_size b = header_count b == 0 || header_size b == 32

abbrev pub has_table : List ℕ → Bool
has_table b = header_count b == 0 || nat_le (header_at b (header_count b)) (length b)

abbrev pub is_load : List ℕ → ℕ → Bool
is_load b at = word_in b at == 1

abbrev pub is_segment : ℕ → Segment → Bool
is_segment size s =
    (s.file_size == 0 || nat_le (s.offset + s.file_size) size)
    && nat_le s.file_size s.memory_size && nat_le (s.address + s.memory_size) (2 ^ 32)

-- two segments share an address
abbrev pub meets : Segment → Segment → Bool
meets s t =
    nat_lt 0 s.memory_size && nat_lt 0 t.memory_size
    && nat_lt s.address (t.address + t.memory_size) && nat_lt t.address (s.address + s.memory_size)

abbrev pub meets_any : Segment → List Segment → Bool
meets_any s before = list_any (meets s) before

abbrev pub holds : Check → List ℕ → Bool
holds Long b = nat_le 52 (length b)
holds Magic b = word_in b 0 == 0x464C457F
holds Class b = has_class b
holds Executable b = half_in b 0x10 == 2
holds Arm b = half_in b 0x12 == 40
holds HeaderSize b = has_header_size b
holds Table b = has_table b
holds (Fits k) b = not (is_load b (header_at b k)) || is_segment (length b) (segment_in b k)
holds (Apart k) b =
    not (is_load b (header_at b k)) || not (meets_any (segment_in b k) (segments_before b k))
holds Enters b = not (entry_of b % 4 == 2)

-- a value, behind these checks
abbrev pub judged : {A : Type 0} → List Check → List ℕ → A → Result A Refusal
judged [] b x = Ok x
judged (c ∷ cs) b x = if holds c b then judged cs b x else Err (told c b)

-- ---- reading

-- the number of program headers
unfoldable pub count_of : List ℕ → Result ℕ Refusal
count_of b = judged head_checks b (header_count b)

-- the segment of the program header at a place, behind others
unfoldable pub segment_of : List ℕ → ℕ → List Segment → Result (Option Segment) Refusal
segment_of b at before =
    if is_load b at then (
    if is_segment (length b) (segment_at b at) then (
    if meets_any (segment_at b at) before then Err (BadImage [] at kind.Overlap)
    else Ok (Some (segment_at b at)))
    else Err (BadImage [] at kind.Segment))
    else Ok None

-- the items of an answer
abbrev pub told_items : Option Segment → List Segment
told_items None = []
told_items (Some s) = s ∷ []

abbrev pub segments_of : List ℕ → ℕ → Result (List Segment) Refusal
segments_of b n = judged (load_checks 0 n) b (segments_before b n)

abbrev pub record_of : List ℕ → List Segment → Elf
record_of b segments = record { entry = entry_of b; segments = segments }

abbrev pub entered : List ℕ → List Segment → Result Elf Refusal
entered b segments = judged (Enters ∷ []) b (record_of b segments)

unfoldable pub elf_of : List ℕ → Result Elf Refusal
elf_of b = count_of b >>= λ n. segments_of b n >>= λ segments. entered b segments

-- the error tells the first check that fails, unless memory was refused
abbrev pub IsFaultOf : List ℕ → Fault → Type 0
IsFaultOf b fault.NoMemory = Unit {0}
IsFaultOf b (fault.Refused r) = (c : Check) × (r ≡ told c b) × IsFirstFailed b c
IsFaultOf b (fault.ReadFault name) = ⊥

-- ---- the laws

abbrev pub ElfLaw : Type 0
ElfLaw = (b : List ℕ) (e : Elf) → (elf_of b ≡ Ok e) ↔ ReadsElf b e

-- bytes have at most one record
abbrev pub OneRecord : Type 0
OneRecord = (b : List ℕ) (e f : Elf) → ReadsElf b e → ReadsElf b f → e ≡ f

-- the check that is told is the first that fails
abbrev pub FirstFailedLaw : Type 0
FirstFailedLaw = (b : List ℕ) (c : Check) → (elf_of b ≡ Err (told c b)) ↔ IsFirstFailed b c
