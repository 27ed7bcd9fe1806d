use Rattle.std.proofs.Common.{◌≡◌, ◌+◌, ◌-◌, ◌<◌, ◌^◌, drop, length, min}
use Rattle.elf_image.specs.Tables.{strings_of, symbol_strings}
use Rattle.sdt_toolkit.proofs.named.strings_size.Given as goal

abbrev pub invariant-loop-symbol : goal.invariant-loop-symbol
invariant-loop-symbol l = record {
  whole : min (l.size + length (symbol_strings (drop l.symbol-index l.symbols))) (2 ^ 64 - 1) ≡ min (length (strings_of l.symbols)) (2 ^ 64 - 1);
  small : l.size < 2 ^ 64;
}
