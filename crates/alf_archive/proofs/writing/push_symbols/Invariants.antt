use Rattle.std.proofs.Common.{◌≡◌, ◌++◌, drop}
use Rattle.alf_archive.specs.Spelling.{symbol_entries}
use Rattle.alf_archive.proofs.writing.push_symbols.Given as goal

abbrev pub invariant-loop-symbol : goal.invariant-loop-symbol
invariant-loop-symbol l = l.out.items ++ symbol_entries l.index (drop l.symbol-index l.symbols) ≡ l.initial.out.items ++ symbol_entries l.index l.symbols
