use Rattle.std.proofs.Common.{◌≡◌, ◌++◌, take}
use Rattle.asm_expr.proofs.evaluating.add_copies.Given as goal

abbrev pub invariant-names : goal.invariant-names
invariant-names l = l.names ≡ l.initial.names ++ take l.entry-index l.list
