-- Expressions with numbers that are too large. This project's.
use Rattle.std.specs.Prelude.{List, Bool}
use Rattle.std.specs.List.{list_any}
use Rattle.asm_model.specs.declared.exprs.Expr.{Expr}
use Rattle.asm_model.specs.Exprs.{is_large}

-- whether one of them has such a number
abbrev pub has_one : List Expr → Bool
has_one es = list_any (λ e. list_any is_large e.items) es
