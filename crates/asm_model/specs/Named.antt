-- The names in what statements load have characters. SDT 2.50 Reference Guide, chapter on the assembler.
use Rattle.std.specs.Prelude.{List, [], ◌∷◌}
use Rattle.asm_model.specs.declared.exprs.ExprItem.{ExprItem}
use Rattle.asm_model.specs.declared.exprs.ExprItem.TheVariants as item
use Rattle.asm_model.specs.declared.statements.PseudoLine.{PseudoLine}
use Rattle.asm_model.specs.declared.statements.PseudoLine.TheVariants as pseudo
use Rattle.asm_model.specs.declared.statements.Statement.{Statement}
use Rattle.asm_model.specs.declared.statements.What.{What}
use Rattle.asm_model.specs.declared.statements.What.TheVariants as what
use Rattle.asm_model.specs.PlacedLines.{IsName}

abbrev pub ItemNamed : ExprItem → Type 0
ItemNamed (item.Name name) = IsName name
ItemNamed _ = Unit {0}

abbrev pub AllItemsNamed : List ExprItem → Type 0
AllItemsNamed [] = Unit {0}
AllItemsNamed (i ∷ is) = ItemNamed i × AllItemsNamed is

abbrev pub PseudoLoadNamed : PseudoLine → Type 0
PseudoLoadNamed (pseudo.LoadConstant condition rd e) = AllItemsNamed e.items
PseudoLoadNamed (pseudo.Address condition rd e) = Unit {0}
PseudoLoadNamed (pseudo.LongAddress condition rd e) = Unit {0}
PseudoLoadNamed pseudo.NoOperation = Unit {0}

-- names in what a statement loads have characters, as all that lines say have
abbrev pub LoadNamed : What → Type 0
LoadNamed what.Nothing = Unit {0}
LoadNamed (what.Arm l) = Unit {0}
LoadNamed (what.Thumb l) = Unit {0}
LoadNamed (what.Pseudo l) = PseudoLoadNamed l
LoadNamed (what.Directive l) = Unit {0}

abbrev pub AllLoadsNamed : List Statement → Type 0
AllLoadsNamed [] = Unit {0}
AllLoadsNamed (s ∷ before) = LoadNamed s.what × AllLoadsNamed before
