use Rattle.std.proofs.Common.{drop}
use Rattle.asm_names.specs.Equals.{pairs_of}
use Rattle.asm_names.specs.Index.{IsIndexOf}
use Rattle.asm_names.proofs.index.index_of.Given as goal

abbrev pub invariant-loop-i : goal.invariant-loop-i
invariant-loop-i l = IsIndexOf l.i (drop l.i (pairs_of l.equals)) l.index
