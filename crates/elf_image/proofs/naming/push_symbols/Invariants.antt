use Rattle.std.proofs.Common.{◌≡◌, ◌+◌, ◌^◌, ◌<◌, ◌++◌, drop, length}
use Rattle.boot_code.specs.Maps.{bytes_of_words}
use Rattle.elf_image.specs.Tables.{symbols_words, symbol_strings}
use Rattle.elf_image.proofs.naming.push_symbols.Given as goal

abbrev pub invariant-loop-symbol : goal.invariant-loop-symbol
invariant-loop-symbol l = record {
  so_far : l.out.items ++ bytes_of_words (symbols_words l.name (drop l.symbol-index l.symbols)) ≡ l.fn.out.items ++ bytes_of_words (symbols_words 1 l.symbols);
  small : l.name + length (symbol_strings (drop l.symbol-index l.symbols)) < 2 ^ 32;
}
