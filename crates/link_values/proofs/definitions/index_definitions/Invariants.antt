use Rattle.std.proofs.Common.{drop}
use Rattle.link_values.specs.Index.{IsIndexOf}
use Rattle.link_values.proofs.definitions.index_definitions.Given as goal

abbrev pub invariant-loop-i : goal.invariant-loop-i
invariant-loop-i l = IsIndexOf (drop l.i l.definitions) l.index
