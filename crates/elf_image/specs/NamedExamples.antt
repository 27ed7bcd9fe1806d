-- A file with sections and symbols, worked out by hand from the format (System V Application Binary Interface, Object Files; ELF
-- for the ARM Architecture): an image with one load region of two words at 0x8000, which is its one section, where a mapping
-- symbol stands at the first word, and a function of ARM code at the second.
use Rattle.std.specs.Prelude.{◌≡◌, false, [], ◌∷◌, length, replicate}
use Rattle.link_model.specs.declared.images.Image.{Image}
use Rattle.link_model.specs.declared.images.ImageKind.TheVariants as form
use Rattle.link_model.specs.declared.images.LoadRegion.{LoadRegion}
use Rattle.elf_image.specs.declared.tables.Binding.TheVariants as binding
use Rattle.elf_image.specs.declared.tables.ElfSymbol.{ElfSymbol}
use Rattle.elf_image.specs.declared.tables.Section.{Section}
use Rattle.elf_image.specs.declared.tables.SectionKind.TheVariants as section
use Rattle.elf_image.specs.declared.tables.SymbolKind.TheVariants as symbol
use Rattle.elf_image.specs.declared.tables.SymbolPlace.TheVariants as place
use Rattle.elf_image.specs.declared.tables.Tables.{Tables}
use Rattle.elf_image.specs.Tables as tables
use Rattle.elf_image.specs.Tables.{named_file}

abbrev pub region : LoadRegion
region = record { name = []; base = 0x8000; bytes = replicate 8 0 }

abbrev pub image : Image
image = record {
  kind = form.Scatter;
  loads = region ∷ [];
  regions = [];
  start = 0x8000;
  entry = 0x8000;
  call = 0x8000;
  thumb = false;
  bound = 0;
  moves = [];
}

-- named X
abbrev pub code : Section
code = record { name = 88 ∷ []; kind = section.Bytes; address = 0x8000; offset = 0x54; size = 8 }

-- named $a
abbrev pub mark : ElfSymbol
mark = record { name = 36 ∷ 97 ∷ []; value = 0x8000; binding = binding.Local; kind = symbol.Untyped; place = place.Section 1 }

-- named f
abbrev pub function : ElfSymbol
function = record { name = 102 ∷ []; value = 0x8004; binding = binding.Global; kind = symbol.Function; place = place.Section 1 }

abbrev pub names : Tables
names = record { sections = code ∷ []; symbols = mark ∷ function ∷ [] }

pub record NamedExample : Type 0 where
  pub header :
      tables.named_header 0x8000 1 0x5C 1
      ≡ 0x464C457F ∷ 0x00010101 ∷ 0 ∷ 0 ∷ 0x00280002
      ∷ 1 ∷ 0x8000 ∷ 0x34 ∷ 0x5C ∷ 0 ∷ 0x00200034 ∷ 0x00280001 ∷ 0x00040005 ∷ []
  pub sections :
      tables.section_headers names.sections
      ≡ 0 ∷ 0 ∷ 0 ∷ 0 ∷ 0 ∷ 0 ∷ 0 ∷ 0 ∷ 0 ∷ 0
      ∷ 27 ∷ 1 ∷ 7 ∷ 0x8000 ∷ 0x54 ∷ 8 ∷ 0 ∷ 0 ∷ 4 ∷ 0 ∷ []
  pub symtab : tables.symtab_header 0x5C names ≡ 1 ∷ 2 ∷ 0 ∷ 0 ∷ 0x124 ∷ 0x30 ∷ 3 ∷ 2 ∷ 4 ∷ 16 ∷ []
  pub strtab : tables.symbol_strings_header 0x5C names ≡ 9 ∷ 3 ∷ 0 ∷ 0 ∷ 0x154 ∷ 6 ∷ 0 ∷ 0 ∷ 1 ∷ 0 ∷ []
  pub shstrtab : tables.section_strings_header 0x5C names ≡ 17 ∷ 3 ∷ 0 ∷ 0 ∷ 0x15A ∷ 29 ∷ 0 ∷ 0 ∷ 1 ∷ 0 ∷ []
  pub symbols :
      tables.symbol_table names.symbols
      ≡ 0 ∷ 0 ∷ 0 ∷ 0 ∷ 1 ∷ 0x8000 ∷ 0 ∷ 0x00010000 ∷ 4 ∷ 0x8004 ∷ 0 ∷ 0x00010012 ∷ []
  pub strings : tables.strings_of names.symbols ≡ 0 ∷ 36 ∷ 97 ∷ 0 ∷ 102 ∷ 0 ∷ []
  pub size : length (named_file image names) ≡ 0x177
