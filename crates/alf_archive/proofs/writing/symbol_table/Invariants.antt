use Rattle.std.proofs.Common.{◌≡◌, ◌+◌, ◌++◌, drop}
use Rattle.alf_archive.specs.Numbered.{numbered}
use Rattle.alf_archive.specs.Spelling.{member_symbols, symbols_of}
use Rattle.alf_archive.proofs.writing.symbol_table.Given as goal

abbrev pub invariant-loop-i : goal.invariant-loop-i
invariant-loop-i l = l.out.items ++ numbered member_symbols (5 + l.i) (drop l.i l.members) ≡ symbols_of l.members
