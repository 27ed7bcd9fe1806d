use Rattle.std.proofs.Common.{◌≡◌, ◌++◌, length}
use Rattle.asm_expr.specs.Seeing.{seen_names}
use Rattle.asm_names.specs.Steps.{kept_items}
use Rattle.asm_names.proofs.keeping.kept_items.Given as goal

abbrev pub invariant-items : goal.invariant-items
invariant-items l = l.all.items ++ kept_items (seen_names l.seen) l.left ≡ kept_items (seen_names l.seen) l.items

abbrev pub decreases-items : goal.decreases-items
decreases-items l = length l.left
