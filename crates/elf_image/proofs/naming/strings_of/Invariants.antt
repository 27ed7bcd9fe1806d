use Rattle.std.proofs.Common.{◌≡◌, ◌++◌, drop}
use Rattle.elf_image.specs.Tables.{strings_of, symbol_strings}
use Rattle.elf_image.proofs.naming.strings_of.Given as goal

abbrev pub invariant-loop-symbol : goal.invariant-loop-symbol
invariant-loop-symbol l = l.out.items ++ symbol_strings (drop l.symbol-index l.symbols) ≡ strings_of l.symbols
