use Rattle.std.proofs.Common.{◌≡◌, ◌+◌, ◌^◌, ◌<◌, ◌++◌, drop, length}
use Rattle.boot_code.specs.Maps.{bytes_of_words}
use Rattle.elf_image.specs.Tables.{sections_words, section_strings}
use Rattle.elf_image.proofs.naming.push_sections.Given as goal

abbrev pub invariant-loop-section : goal.invariant-loop-section
invariant-loop-section l = record {
  so_far : l.out.items ++ bytes_of_words (sections_words l.name (drop l.section-index l.sections)) ≡ l.fn.out.items ++ bytes_of_words (sections_words 27 l.sections);
  small : l.name + length (section_strings (drop l.section-index l.sections)) < 2 ^ 32;
}
