-- Expressions of expansion: what the code knows of names in them. This project's.
use Rattle.std.specs.Prelude.{◌≡◌, ℕ, List, [], ◌∷◌, ◌++◌, Bool, true, false, Option, Some, None, Ok, Err}
use Rattle.sdt_fault.specs.declared.kinds.LineKind.{LineKind}
use Rattle.asm_model.specs.declared.exprs.ExprItem.{ExprItem}
use Rattle.asm_model.specs.declared.exprs.ExprItem.TheVariants as item
use Rattle.asm_model.specs.declared.exprs.Part.{Part}
use Rattle.asm_model.specs.declared.exprs.UnaryOp.TheVariants as unary
use Rattle.asm_model.specs.declared.names.LaidName.{LaidName}
use Rattle.asm_model.specs.declared.values.Value.{Value}
use Rattle.asm_model.specs.declared.values.Value.TheVariants.{Number}
use Rattle.asm_model.specs.Directives.{or_else}
use Rattle.asm_model.specs.Grammar.{Tree, postfix, IsSpelled}
use Rattle.expand_model.specs.Known.{Operand, variable_entries, number_entries, label_entries, item_kinds, asked_kinds}
use Rattle.expand_model.specs.States.{State, found, variable}
use Rattle.asm_variables.specs.declared.values.Visible.{Visible}
use Rattle.asm_variables.specs.declared.values.Visible.TheVariants as visible

-- items that tokens spell
pub record IsExpression (items : List ExprItem) : Type 0 where
  pub parts : List Part
  pub tree : Tree
  pub spelled : IsSpelled parts tree
  pub are : items ≡ postfix tree

abbrev pub WasRead : Operand → Type 0
WasRead (Ok e) = IsExpression e.items
WasRead (Err k) = Unit {0}

-- the names with values
abbrev pub entries_in : Visible → State → List LaidName
entries_in visible.Everything s = variable_entries s ++ number_entries s
entries_in visible.Numbers s = number_entries s

-- all names
abbrev pub all_entries : Visible → State → List LaidName
all_entries v s = entries_in v s ++ label_entries s

abbrev pub number_value : Option ℕ → Option Value
number_value None = None
number_value (Some n) = Some (Number n)

-- the value for which a name stands
abbrev pub value_in : Visible → State → List ℕ → Option Value
value_in visible.Everything s q = or_else (variable s q) (number_value (found q s.numbers))
value_in visible.Numbers s q = number_value (found q s.numbers)

-- whether :DEF: stands first
abbrev pub is_asked : List ExprItem → Bool
is_asked (item.Unary unary.Defined ∷ is) = true
is_asked _ = false

-- the faults of an item, before :DEF: or not
abbrev pub kinds_of : List LaidName → Bool → ExprItem → List LineKind
kinds_of values true i = asked_kinds values unary.Defined i
kinds_of values false i = item_kinds values i

abbrev pub items_kinds : List LaidName → List ExprItem → List LineKind
items_kinds values [] = []
items_kinds values (i ∷ is) = kinds_of values (is_asked is) i ++ items_kinds values is
