-- The entries of the names in an expression. This project's.
use Rattle.std.specs.Prelude.{List, [], ◌∷◌, ◌++◌}
use Rattle.asm_model.specs.declared.exprs.ExprItem.{ExprItem}
use Rattle.asm_model.specs.declared.exprs.ExprItem.TheVariants as item
use Rattle.asm_model.specs.declared.names.LaidName.{LaidName}
use Rattle.asm_model.specs.Meaning.{named_in}
use Rattle.asm_expr.specs.Places.{one_entry}

abbrev pub item_entries : List LaidName → ExprItem → List LaidName
item_entries all (item.Name q) = one_entry (named_in q all)
item_entries all _ = []

abbrev pub items_entries : List LaidName → List ExprItem → List LaidName
items_entries all [] = []
items_entries all (i ∷ is) = item_entries all i ++ items_entries all is
