use Rattle.std.proofs.Common.{◌≡◌, ◌++◌, drop}
use Rattle.elf_image.specs.Tables.{names_of, section_strings}
use Rattle.elf_image.proofs.naming.names_of.Given as goal

abbrev pub invariant-loop-section : goal.invariant-loop-section
invariant-loop-section l = l.out.items ++ section_strings (drop l.section-index l.sections) ≡ names_of l.sections
