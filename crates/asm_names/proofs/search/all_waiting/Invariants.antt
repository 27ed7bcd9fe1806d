use Rattle.std.proofs.Common.{◌≡◌, ◌++◌}
use Rattle.asm_names.specs.Search.{starts}
use Rattle.asm_names.proofs.search.all_waiting.Given as goal

abbrev pub invariant-loop-i : goal.invariant-loop-i
invariant-loop-i l = l.hand.items ++ starts l.i ≡ starts l.count
