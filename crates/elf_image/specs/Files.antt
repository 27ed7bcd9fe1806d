-- The ELF executable of a linked image, and what loading such a file puts into memory (System V Application Binary
-- Interface, Object Files: ELF Header, Program Header, Program Loading; ELF for the ARM Architecture; that a segment
-- stands for each load region, with all permissions, and that nothing stands between their bytes, is this project's).
use Rattle.std.specs.Prelude.{◌≡◌, ℕ, ◌+◌, ◌-◌, ◌*◌, ◌%◌, ◌^◌, ◌<◌, ◌≤◌, List, [], ◌∷◌, ◌++◌, length, map, take, drop, replicate}
use Rattle.std.specs.List.{AllByRecursion, flat_map}
use Rattle.boot_code.specs.Boots.{ByteMap}
use Rattle.boot_code.specs.Maps as maps
use Rattle.boot_code.specs.Maps.{bytes_of_words, map_of}
use Rattle.chunk_file.specs.Reading.{EachStands}
use Rattle.link_model.specs.declared.images.Image.{Image}
use Rattle.link_model.specs.declared.images.LoadRegion.{LoadRegion}
use Rattle.elf_image.specs.declared.records.Elf.{Elf}
use Rattle.elf_image.specs.declared.records.Segment.{Segment}
use Rattle.elf_image.specs.Checks.{ReadsElf}

-- ---- what is loaded

-- the file's bytes of a segment, and zeros behind them up to its size in memory
abbrev pub bytes_in : List ℕ → Segment → List ℕ
bytes_in b s = take s.file_size (drop s.offset b) ++ replicate (s.memory_size - s.file_size) 0

abbrev pub loaded : List ℕ → Segment → maps.Segment
loaded b s = record { base = s.address; bytes = bytes_in b s }

-- the byte that each address has where the file is loaded
abbrev pub elf_load : List ℕ → Elf → ByteMap
elf_load b e = map_of (map (loaded b) e.segments)

-- ---- the header

-- two half-words as a word, and four bytes
abbrev pub halves : ℕ → ℕ → ℕ
halves low high = low + 2 ^ 16 * high

abbrev pub bytes : ℕ → ℕ → ℕ → ℕ → ℕ
bytes first second third fourth = halves (first + 256 * second) (third + 256 * fourth)

-- e_ident: the magic number, 32 bits, little-endian, version 1; e_type, an executable, and e_machine, ARM; e_version,
-- e_entry, e_phoff, e_shoff, e_flags; e_ehsize and e_phentsize; e_phnum; no section headers
abbrev pub header_words : ℕ → ℕ → List ℕ
header_words entry count =
    bytes 0x7F 0x45 0x4C 0x46 ∷ bytes 1 1 1 0 ∷ 0 ∷ 0
    ∷ halves 2 40
    ∷ 1 ∷ entry ∷ 52 ∷ 0 ∷ 0
    ∷ halves 52 32
    ∷ halves count 0 ∷ 0
    ∷ []

-- ---- program headers

-- where the segments' bytes begin
abbrev pub first_offset : ℕ → ℕ
first_offset count = 52 + 32 * count

-- p_type, PT_LOAD; p_offset, p_vaddr, p_paddr, p_filesz, p_memsz; p_flags, which are all; p_align
abbrev pub load_words : ℕ → LoadRegion → List ℕ
load_words offset l =
    1 ∷ offset ∷ l.base ∷ l.base ∷ length l.bytes ∷ length l.bytes ∷ 7 ∷ 4 ∷ []

-- those of load regions whose bytes stand one behind the other from an offset on
abbrev pub loads_words : ℕ → List LoadRegion → List ℕ
loads_words offset [] = []
loads_words offset (l ∷ ls) = load_words offset l ++ loads_words (offset + length l.bytes) ls

abbrev pub headers_bytes : ℕ → List LoadRegion → List ℕ
headers_bytes offset loads = bytes_of_words (loads_words offset loads)

-- ---- the file

abbrev pub loads_bytes : List LoadRegion → List ℕ
loads_bytes loads = flat_map (λ l. l.bytes) loads

abbrev pub elf_words : ℕ → List LoadRegion → List ℕ
elf_words entry loads =
    header_words entry (length loads) ++ loads_words (first_offset (length loads)) loads

abbrev pub file_of : ℕ → List LoadRegion → List ℕ
file_of entry loads = bytes_of_words (elf_words entry loads) ++ loads_bytes loads

abbrev pub elf_file : Image → List ℕ
elf_file i = file_of i.start i.loads

abbrev pub file_size : List LoadRegion → ℕ
file_size loads = first_offset (length loads) + length (loads_bytes loads)

-- ---- its record

abbrev pub load_segment : ℕ → LoadRegion → Segment
load_segment offset l = record {
  offset = offset;
  address = l.base;
  file_size = length l.bytes;
  memory_size = length l.bytes;
  flags = 7;
}

abbrev pub segments_from : ℕ → List LoadRegion → List Segment
segments_from offset [] = []
segments_from offset (l ∷ ls) = load_segment offset l ∷ segments_from (offset + length l.bytes) ls

abbrev pub elf_record : Image → Elf
elf_record i = record {
  entry = i.start;
  segments = segments_from (first_offset (length i.loads)) i.loads;
}

-- ---- the laws

abbrev pub InLoad : LoadRegion → ℕ → Type 0
InLoad l a = (l.base ≤ a) × (a < l.base + length l.bytes)

-- no address is in both
abbrev pub AreApart : LoadRegion → LoadRegion → Type 0
AreApart k l = (a : ℕ) → InLoad k a → InLoad l a → ⊥

-- The load regions end at 2^32 or below, and none meets an earlier one; they can be counted, and their offsets in the
-- file are words; the start is at a whole word.
pub record IsElf (i : Image) : Type 0 where
  pub in_space : AllByRecursion (λ l. l.base + length l.bytes ≤ 2 ^ 32) i.loads
  pub bases : AllByRecursion (λ l. l.base < 2 ^ 32) i.loads
  pub apart : EachStands (λ before l. AllByRecursion (AreApart l) before) [] i.loads
  pub counted : length i.loads < 2 ^ 16
  pub sized : file_size i.loads < 2 ^ 32
  pub start_fits : i.start < 2 ^ 32
  pub start_aligned : i.start % 4 ≡ 0

-- the file reads as that
abbrev pub WrittenLaw : Type 0
WrittenLaw = (i : Image) → IsElf i → ReadsElf (elf_file i) (elf_record i)

-- and what it loads is what the load regions are
abbrev pub load_of : LoadRegion → maps.Segment
load_of l = record { base = l.base; bytes = l.bytes }

abbrev pub LoadLaw : Type 0
LoadLaw = (i : Image) → elf_load (elf_file i) (elf_record i) ≡ map_of (map load_of i.loads)
