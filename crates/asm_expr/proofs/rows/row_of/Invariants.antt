use Rattle.std.proofs.Common.{◌≡◌, map, drop}
use Rattle.asm_model.specs.Directives.{row_of}
use Rattle.asm_expr.proofs.rows.row_of.Given as goal

abbrev pub invariant-loop-row : goal.invariant-loop-row
invariant-loop-row g l =
    row_of l.word (map (λ row. (row.0.now, row.1)) (drop l.row-index l.rows)) ≡ row_of l.word (map (λ row. (row.0.now, row.1)) l.rows)
