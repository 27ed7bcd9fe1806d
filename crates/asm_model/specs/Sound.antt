-- Sources without faults, as lines say them: a constant in an expression is no place. This project's.
use Rattle.std.specs.Prelude.{◌≡◌, List, [], ◌∷◌, None}
use Rattle.asm_model.specs.declared.exprs.ExprItem.{ExprItem}
use Rattle.asm_model.specs.declared.exprs.ExprItem.TheVariants as item
use Rattle.asm_model.specs.declared.statements.Statement.{Statement}
use Rattle.asm_model.specs.declared.values.Value.{Value}
use Rattle.asm_model.specs.declared.values.Value.TheVariants.{Number, Truth, Words, Place}
use Rattle.asm_model.specs.Labels.{Defined, Equal, defined_by}
use Rattle.asm_model.specs.Laid.{laid}
use Rattle.asm_model.specs.LayoutKinds.{equals_in, settled, first_fault}

-- no line of the source has a fault that is told at it
abbrev pub IsSound : List Statement → Type 0
IsSound statements = first_fault (settled (equals_in statements)) statements (laid statements) ≡ None

abbrev pub IsNoPlace : Value → Type 0
IsNoPlace (Place s n) = ⊥
IsNoPlace (Number n) = Unit {0}
IsNoPlace (Truth b) = Unit {0}
IsNoPlace (Words w) = Unit {0}

abbrev pub HasNoPlace : ExprItem → Type 0
HasNoPlace (item.Constant v) = IsNoPlace v
HasNoPlace _ = Unit {0}

abbrev pub HaveNoPlaces : List ExprItem → Type 0
HaveNoPlaces [] = Unit {0}
HaveNoPlaces (i ∷ is) = HasNoPlace i × HaveNoPlaces is

abbrev pub IsPlain : Defined → Type 0
IsPlain (Equal name e) = HaveNoPlaces e.items
IsPlain _ = Unit {0}

-- statements as lines say them
abbrev pub ArePlain : List Statement → Type 0
ArePlain [] = Unit {0}
ArePlain (s ∷ before) = IsPlain (defined_by s) × ArePlain before
