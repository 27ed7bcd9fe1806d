use Rattle.std.proofs.Common.{◌++◌, length}
use Rattle.std.specs.Prelude.{Result}
use Rattle.sdt_fault.specs.declared.kinds.LineKind.{LineKind}
use Rattle.asm_model.specs.declared.exprs.Expr.{Expr}
use Rattle.asm_model.specs.Operands.{operands_at}
use Rattle.asm_model.specs.Readings.{on_both}
use Rattle.asm_model.specs.Says.{Expressions}
use Rattle.asm_expr.proofs.readings.some_expressions.Given as goal
use Rattle.std.proofs.Common.{List}

abbrev pub invariant-operands : goal.invariant-operands
invariant-operands l =
    (b : Result (List Expr) LineKind) → Expressions l.text (operands_at l.text 0 l.left) b
    → Expressions l.text (operands_at l.text 0 l.tokens) (on_both (λ es fs. es ++ fs) l.so_far b)

abbrev pub decreases-operands : goal.decreases-operands
decreases-operands l = length l.left
