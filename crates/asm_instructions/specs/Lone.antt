-- Expressions that are the name of a place alone. This project's.
use Rattle.std.specs.Prelude.{List, [], ◌∷◌, Bool, true, false, if◌then◌else◌, Option, Some, None}
use Rattle.asm_model.specs.declared.exprs.ExprItem.{ExprItem}
use Rattle.asm_model.specs.declared.exprs.ExprItem.TheVariants as item
use Rattle.asm_model.specs.declared.names.LaidName.{LaidName}
use Rattle.asm_model.specs.declared.names.Meaning.{Meaning}
use Rattle.asm_model.specs.declared.names.Meaning.TheVariants as means
use Rattle.asm_model.specs.Meaning.{named_in}

abbrev pub is_symbolic : Meaning → Bool
is_symbolic means.Label = true
is_symbolic means.Imported = true
is_symbolic means.Place = true
is_symbolic _ = false

abbrev pub symbolic : Option LaidName → Option LaidName
symbolic None = None
symbolic (Some n) = if is_symbolic n.meaning then Some n else None

abbrev pub item_entry : List LaidName → ExprItem → Option LaidName
item_entry names (item.Name q) = named_in q names
item_entry names _ = None

-- the entry of a name that stands for a place, where the items are that name
abbrev pub lone_place : List LaidName → List ExprItem → Option LaidName
lone_place names (i ∷ []) = symbolic (item_entry names i)
lone_place names _ = None
