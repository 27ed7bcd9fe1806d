use Rattle.std.proofs.Common.{take}
use Rattle.link_apply.specs.Sites.{AreAllBelow}
use Rattle.link_apply.proofs.applying.are_below.Given as goal

abbrev pub invariant-values : goal.invariant-values
invariant-values l = AreAllBelow (take l.symbols-index l.values)
