use Rattle.std.proofs.Common.{refl}
use Rattle.elf_image.specs.Tables.{named_header, named_of, section_headers, section_strings_header, section_table, symbol_strings_header, symbol_table, symtab_header, table_headers, tables_bytes}
use Rattle.elf_image.proofs.laws.named_example.Goals as goal

pub returns : goal.returns
unfolding named_header named_of section_headers section_strings_header section_table symbol_strings_header symbol_table symtab_header table_headers tables_bytes
returns c = record {
  header = refl;
  sections = refl;
  symtab = refl;
  strtab = refl;
  shstrtab = refl;
  symbols = refl;
  strings = refl;
  size = refl;
}
