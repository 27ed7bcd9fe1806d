use Rattle.std.proofs.Common.{drop}
use Rattle.link_symbols.specs.Starts.{AreStarts}
use Rattle.link_symbols.proofs.areas.index_starts.Given as goal

abbrev pub invariant-loop-i : goal.invariant-loop-i
invariant-loop-i l = AreStarts (drop l.i l.symbols) l.index
