use Rattle.std.proofs.Common.{◌≡◌, ◌++◌, drop}
use Rattle.asm_expand.proofs.definitions.lines_copy.Given as goal

abbrev pub invariant-lines : goal.invariant-lines
invariant-lines l = l.copies.items ++ drop l.line-index l.lines ≡ l.lines
