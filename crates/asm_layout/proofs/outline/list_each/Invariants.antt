use Rattle.std.proofs.Common.{length}
use Rattle.asm_layout.specs.Outline.{IsListing}
use Rattle.asm_layout.proofs.outline.list_each.Given as goal

abbrev pub invariant-statements : goal.invariant-statements
invariant-statements l = IsListing l.statements l.left l.behind l.listed

abbrev pub decreases-statements : goal.decreases-statements
decreases-statements l = length l.left
