use Rattle.std.proofs.Common.{drop, false}
use Rattle.asm_expand.specs.Defining.{IsRepeated}
use Rattle.asm_expand.proofs.definitions.has_twice.Given as goal

abbrev pub invariant-loop-i : goal.invariant-loop-i
invariant-loop-i l = IsRepeated (drop l.i l.parameters) false l.seen
