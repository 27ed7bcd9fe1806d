use Rattle.std.proofs.Common.{take}
use Rattle.link_apply.specs.Starts.{AreBelow}
use Rattle.link_apply.proofs.applying.is_below.Given as goal

abbrev pub invariant-loop-symbol : goal.invariant-loop-symbol
invariant-loop-symbol l = AreBelow (take l.symbol-index l.symbols)
