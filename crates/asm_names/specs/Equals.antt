-- Names for expressions, as the layout's definitions see them. This project's.
use Rattle.std.specs.Prelude.{ℕ, List, map}
use Rattle.asm_model.specs.declared.exprs.Expr.{Expr}
use Rattle.asm_names.specs.declared.equals.Equal.{Equal}

abbrev pub pair_of : Equal → List ℕ × Expr
pair_of e = (e.name.now, e.value.now)

-- each name with its expression
abbrev pub pairs_of : List Equal → List (List ℕ × Expr)
pairs_of equals = map pair_of equals
