-- The ELF executable of a linked image with sections and symbols for a debugger (System V Application Binary Interface, Object
-- Files: Sections, String Table, Symbol Table; ELF for the ARM Architecture). It is the file without them, in whose header three
-- fields tell of the sections, with tables behind: section headers, symbols, and the strings of both. That they stand in this
-- order, from a whole word on, and that a section has all permissions, is this project's.
use Rattle.std.specs.Prelude.{◌≡◌, ℕ, ◌+◌, ◌-◌, ◌*◌, ◌/◌, List, [], ◌∷◌, ◌++◌, length, map, replicate, if◌then◌else◌, Bool, true, false}
use Rattle.std.specs.List.{flat_map}
use Rattle.boot_code.specs.Maps.{bytes_of_words, map_of}
use Rattle.link_model.specs.declared.images.Image.{Image}
use Rattle.link_model.specs.declared.images.LoadRegion.{LoadRegion}
use Rattle.elf_image.specs.declared.tables.Binding.{Binding}
use Rattle.elf_image.specs.declared.tables.Binding.TheVariants as binding
use Rattle.elf_image.specs.declared.tables.ElfSymbol.{ElfSymbol}
use Rattle.elf_image.specs.declared.tables.Section.{Section}
use Rattle.elf_image.specs.declared.tables.SectionKind.{SectionKind}
use Rattle.elf_image.specs.declared.tables.SectionKind.TheVariants as section
use Rattle.elf_image.specs.declared.tables.SymbolKind.{SymbolKind}
use Rattle.elf_image.specs.declared.tables.SymbolKind.TheVariants as symbol
use Rattle.elf_image.specs.declared.tables.SymbolPlace.{SymbolPlace}
use Rattle.elf_image.specs.declared.tables.SymbolPlace.TheVariants as place
use Rattle.elf_image.specs.declared.tables.Tables.{Tables}
use Rattle.elf_image.specs.Checks.{ReadsElf}
use Rattle.elf_image.specs.Files.{bytes, halves, elf_load, elf_record, file_size, first_offset, headers_bytes, load_of, loads_bytes, IsElf}

-- ---- strings

-- a zero byte ends each, and the string at 0 is the empty one
abbrev pub string_of : List ℕ → List ℕ
string_of name = name ++ 0 ∷ []

abbrev pub symbol_strings : List ElfSymbol → List ℕ
symbol_strings symbols = flat_map (λ s. string_of s.name) symbols

abbrev pub section_strings : List Section → List ℕ
section_strings sections = flat_map (λ s. string_of s.name) sections

abbrev pub strings_of : List ElfSymbol → List ℕ
strings_of symbols = 0 ∷ symbol_strings symbols

-- the strings .symtab at 1, .strtab at 9 and .shstrtab at 17, and behind them the sections' from 27 on
abbrev pub table_names : List ℕ
table_names =
    0 ∷ 46 ∷ 115 ∷ 121 ∷ 109 ∷ 116 ∷ 97 ∷ 98
    ∷ 0 ∷ 46 ∷ 115 ∷ 116 ∷ 114 ∷ 116 ∷ 97 ∷ 98
    ∷ 0 ∷ 46 ∷ 115 ∷ 104 ∷ 115 ∷ 116 ∷ 114 ∷ 116 ∷ 97 ∷ 98 ∷ 0 ∷ []

abbrev pub names_of : List Section → List ℕ
names_of sections = table_names ++ section_strings sections

-- ---- symbols

-- STB_LOCAL, STB_GLOBAL and STB_WEAK
abbrev pub binding_number : Binding → ℕ
binding_number binding.Local = 0
binding_number binding.Global = 1
binding_number binding.Weak = 2

-- STT_NOTYPE, STT_OBJECT and STT_FUNC
abbrev pub kind_number : SymbolKind → ℕ
kind_number symbol.Untyped = 0
kind_number symbol.Object = 1
kind_number symbol.Function = 2

-- SHN_ABS, or the index of a section
abbrev pub place_number : SymbolPlace → ℕ
place_number place.Absolute = 0xFFF1
place_number (place.Section k) = k

-- st_name, st_value, st_size, which is not told; st_info, st_other and st_shndx
abbrev pub symbol_words : ℕ → ElfSymbol → List ℕ
symbol_words name s =
    name ∷ s.value ∷ 0 ∷ halves (16 * binding_number s.binding + kind_number s.kind) (place_number s.place) ∷ []

-- of symbols whose strings stand one behind the other from a place on
abbrev pub symbols_words : ℕ → List ElfSymbol → List ℕ
symbols_words name [] = []
symbols_words name (s ∷ ss) = symbol_words name s ++ symbols_words (name + length (string_of s.name)) ss

-- the first is empty
unfoldable pub symbol_table : List ElfSymbol → List ℕ
symbol_table symbols = 0 ∷ 0 ∷ 0 ∷ 0 ∷ symbols_words 1 symbols

abbrev pub is_local : Binding → Bool
is_local binding.Local = true
is_local _ = false

abbrev pub locals_in : List ElfSymbol → ℕ
locals_in [] = 0
locals_in (s ∷ ss) = if is_local s.binding then 1 + locals_in ss else locals_in ss

-- ---- section headers

-- SHT_PROGBITS and SHT_NOBITS
abbrev pub type_number : SectionKind → ℕ
type_number section.Bytes = 1
type_number section.Zeros = 8

-- sh_name, sh_type; sh_flags: SHF_WRITE, SHF_ALLOC and SHF_EXECINSTR; sh_addr, sh_offset, sh_size, sh_link, sh_info,
-- sh_addralign, sh_entsize
abbrev pub section_words : ℕ → Section → List ℕ
section_words name s =
    name ∷ type_number s.kind ∷ 7 ∷ s.address ∷ s.offset ∷ s.size ∷ 0 ∷ 0 ∷ 4 ∷ 0 ∷ []

abbrev pub sections_words : ℕ → List Section → List ℕ
sections_words name [] = []
sections_words name (s ∷ ss) = section_words name s ++ sections_words (name + length (string_of s.name)) ss

-- the first is empty
unfoldable pub section_headers : List Section → List ℕ
section_headers sections = 0 ∷ 0 ∷ 0 ∷ 0 ∷ 0 ∷ 0 ∷ 0 ∷ 0 ∷ 0 ∷ 0 ∷ sections_words 27 sections

-- SHT_SYMTAB, whose strings are the section of a number, and whose symbols from a number on aren't local
abbrev pub symtab_words : ℕ → ℕ → ℕ → ℕ → List ℕ
symtab_words offset size strings locals =
    1 ∷ 2 ∷ 0 ∷ 0 ∷ offset ∷ size ∷ strings ∷ locals ∷ 4 ∷ 16 ∷ []

-- SHT_STRTAB
abbrev pub strtab_words : ℕ → ℕ → ℕ → List ℕ
strtab_words name offset size = name ∷ 3 ∷ 0 ∷ 0 ∷ offset ∷ size ∷ 0 ∷ 0 ∷ 1 ∷ 0 ∷ []

-- ---- the tables

-- the symbols stand behind the section headers, of which there are four more than sections, and then the strings of both
abbrev pub symbols_from : ℕ → Tables → ℕ
symbols_from at t = at + 40 * (length t.sections + 4)

abbrev pub strings_from : ℕ → Tables → ℕ
strings_from at t = symbols_from at t + 16 * (length t.symbols + 1)

abbrev pub names_from : ℕ → Tables → ℕ
names_from at t = strings_from at t + length (strings_of t.symbols)

abbrev pub end_from : ℕ → Tables → ℕ
end_from at t = names_from at t + length (names_of t.sections)

-- the sizes and the places of the three tables, in their section headers
unfoldable pub symtab_header : ℕ → Tables → List ℕ
symtab_header at t =
    symtab_words (symbols_from at t) (16 * (length t.symbols + 1)) (length t.sections + 2) (locals_in t.symbols + 1)

unfoldable pub symbol_strings_header : ℕ → Tables → List ℕ
symbol_strings_header at t = strtab_words 9 (strings_from at t) (length (strings_of t.symbols))

unfoldable pub section_strings_header : ℕ → Tables → List ℕ
section_strings_header at t = strtab_words 17 (names_from at t) (length (names_of t.sections))

-- of tables that begin at a place
unfoldable pub table_headers : ℕ → Tables → List ℕ
table_headers at t =
    bytes_of_words (symtab_header at t)
    ++ (bytes_of_words (symbol_strings_header at t) ++ bytes_of_words (section_strings_header at t))

unfoldable pub section_table : ℕ → Tables → List ℕ
section_table at t = bytes_of_words (section_headers t.sections) ++ table_headers at t

unfoldable pub tables_bytes : ℕ → Tables → List ℕ
tables_bytes at t =
    section_table at t ++ (bytes_of_words (symbol_table t.symbols) ++ (strings_of t.symbols ++ names_of t.sections))

-- ---- the file

-- the tables begin at the first whole word behind the load regions' bytes
abbrev pub tables_at : List LoadRegion → ℕ
tables_at loads = (file_size loads + 3) / 4 * 4

abbrev pub padding_of : List LoadRegion → List ℕ
padding_of loads = replicate (tables_at loads - file_size loads) 0

abbrev pub named_size : List LoadRegion → Tables → ℕ
named_size loads t = end_from (tables_at loads) t

-- the header of a file without sections, but for e_shoff, e_shentsize, e_shnum and e_shstrndx
unfoldable pub named_header : ℕ → ℕ → ℕ → ℕ → List ℕ
named_header entry count offset sections =
    bytes 0x7F 0x45 0x4C 0x46 ∷ bytes 1 1 1 0 ∷ 0 ∷ 0
    ∷ halves 2 40
    ∷ 1 ∷ entry ∷ 52 ∷ offset ∷ 0
    ∷ halves 52 32
    ∷ halves count 40 ∷ halves (sections + 4) (sections + 3)
    ∷ []

unfoldable pub named_of : ℕ → List LoadRegion → Tables → List ℕ
named_of entry loads t =
    bytes_of_words (named_header entry (length loads) (tables_at loads) (length t.sections))
    ++ (headers_bytes (first_offset (length loads)) loads
    ++ (loads_bytes loads ++ (padding_of loads ++ tables_bytes (tables_at loads) t)))

abbrev pub named_file : Image → Tables → List ℕ
named_file i t = named_of i.start i.loads t

-- ---- the laws

-- sections and symbols change neither what the file reads as
abbrev pub NamedLaw : Type 0
NamedLaw = (i : Image) (t : Tables) → IsElf i → ReadsElf (named_file i t) (elf_record i)

-- nor what it loads
abbrev pub NamedLoadLaw : Type 0
NamedLoadLaw = (i : Image) (t : Tables) → elf_load (named_file i t) (elf_record i) ≡ map_of (map load_of i.loads)
