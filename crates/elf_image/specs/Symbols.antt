-- What a debugger reads of the sections and symbols of an ELF executable (System V Application Binary Interface, Object Files:
-- Sections, String Table, Symbol Table), and the laws that it finds those of a file that is written with them.
use Rattle.std.specs.Prelude.{◌≡◌, ℕ, ◌+◌, ◌*◌, ◌^◌, ◌<◌, List, [], ◌∷◌, ◌++◌, length, drop, take}
use Rattle.std.specs.List.{AllByRecursion}
use Rattle.sdt_word.specs.Bytes.{half_in, word_in}
use Rattle.link_model.specs.declared.images.Image.{Image}
use Rattle.elf_image.specs.declared.tables.ElfSymbol.{ElfSymbol}
use Rattle.elf_image.specs.declared.tables.Section.{Section}
use Rattle.elf_image.specs.declared.tables.Tables.{Tables}
use Rattle.elf_image.specs.Files.{halves}
use Rattle.elf_image.specs.Tables.{binding_number, kind_number, named_file, named_size, place_number, type_number}

-- the section header of a number, from e_shoff on
abbrev pub section_header : List ℕ → ℕ → ℕ
section_header b k = word_in b 0x20 + 40 * k

-- sh_type, sh_offset, sh_size and sh_link
abbrev pub type_at : List ℕ → ℕ → ℕ
type_at b k = word_in b (section_header b k + 4)

abbrev pub contents_at : List ℕ → ℕ → ℕ
contents_at b k = word_in b (section_header b k + 16)

abbrev pub size_at : List ℕ → ℕ → ℕ
size_at b k = word_in b (section_header b k + 20)

abbrev pub linked_at : List ℕ → ℕ → ℕ
linked_at b k = word_in b (section_header b k + 24)

-- the name and the zero byte that ends it stand there
abbrev pub HasString : List ℕ → ℕ → List ℕ → Type 0
HasString b at name = take (length name + 1) (drop at b) ≡ name ++ 0 ∷ []

-- the symbol of a number in the table of a number, whose strings are the section that it is linked with
abbrev pub symbol_at : List ℕ → ℕ → ℕ → ℕ
symbol_at b table k = contents_at b table + 16 * k

pub record IsSymbol (b : List ℕ) (table k : ℕ) (s : ElfSymbol) : Type 0 where
  pub name : HasString b (contents_at b (linked_at b table) + word_in b (symbol_at b table k)) s.name
  pub value : word_in b (symbol_at b table k + 4) ≡ s.value
  pub rest : word_in b (symbol_at b table k + 12) ≡ halves (16 * binding_number s.binding + kind_number s.kind) (place_number s.place)

-- the section of a number is a table of symbols, which are these behind the empty one
pub record HasSymbols (b : List ℕ) (table : ℕ) (symbols : List ElfSymbol) : Type 0 where
  pub kind : type_at b table ≡ 2
  pub size : size_at b table ≡ 16 * (length symbols + 1)
  pub each : (before : List ElfSymbol) (s : ElfSymbol) (after : List ElfSymbol) → symbols ≡ before ++ s ∷ after → IsSymbol b table (length before + 1) s

-- the file has fewer than 2^32 bytes, and what symbols have are words and half-words
pub record CanName (i : Image) (t : Tables) : Type 0 where
  pub sized : named_size i.loads t < 2 ^ 32
  pub values : AllByRecursion (λ s. s.value < 2 ^ 32) t.symbols
  pub places : AllByRecursion (λ s. place_number s.place < 2 ^ 16) t.symbols

-- the symbols are the section behind those that are given
abbrev pub SymbolsLaw : Type 0
SymbolsLaw = (i : Image) (t : Tables) → CanName i t → HasSymbols (named_file i t) (length t.sections + 1) t.symbols

-- ---- sections

-- the section of a number, whose name is in the section that e_shstrndx tells
pub record IsSection (b : List ℕ) (k : ℕ) (s : Section) : Type 0 where
  pub name : HasString b (contents_at b (half_in b 0x32) + word_in b (section_header b k)) s.name
  pub kind : type_at b k ≡ type_number s.kind
  pub address : word_in b (section_header b k + 12) ≡ s.address
  pub offset : contents_at b k ≡ s.offset
  pub size : size_at b k ≡ s.size

-- these are the file's behind the empty one
abbrev pub HasSections : List ℕ → List Section → Type 0
HasSections b sections = (before : List Section) (s : Section) (after : List Section) → sections ≡ before ++ s ∷ after → IsSection b (length before + 1) s

-- what a section has are words
pub record AreFields (s : Section) : Type 0 where
  pub address : s.address < 2 ^ 32
  pub offset : s.offset < 2 ^ 32
  pub size : s.size < 2 ^ 32

abbrev pub SectionsLaw : Type 0
SectionsLaw =
    (i : Image) (t : Tables) → CanName i t → length t.sections < 0xFEFC → AllByRecursion AreFields t.sections
    → HasSections (named_file i t) t.sections
