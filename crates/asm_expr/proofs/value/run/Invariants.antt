use Rattle.std.proofs.Common.{◌≡◌, drop, []}
use Rattle.asm_expr.specs.Evaluating as evaluating
use Rattle.asm_expr.specs.Seeing.{seen_names}
use Rattle.asm_expr.proofs.value.run.Given as goal

abbrev pub invariant-items : goal.invariant-items
invariant-items l =
    evaluating.run (seen_names l.seen) (drop l.item-index l.items) (evaluating.operands_of l.stack.items) ≡ evaluating.run (seen_names l.seen) l.items []
