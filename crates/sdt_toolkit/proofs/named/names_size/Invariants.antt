use Rattle.std.proofs.Common.{◌≡◌, ◌+◌, ◌-◌, ◌<◌, ◌^◌, drop, length, min}
use Rattle.elf_image.specs.Tables.{names_of, section_strings}
use Rattle.sdt_toolkit.proofs.named.names_size.Given as goal

abbrev pub invariant-loop-section : goal.invariant-loop-section
invariant-loop-section l = record {
  whole : min (l.size + length (section_strings (drop l.section-index l.sections))) (2 ^ 64 - 1) ≡ min (length (names_of l.sections)) (2 ^ 64 - 1);
  small : l.size < 2 ^ 64;
}
