-- The tree of an expression's items: the one whose items they are. This project's.
use Rattle.std.specs.Prelude.{List, [], ◌∷◌, Option, Some, None}
use Rattle.asm_model.specs.declared.exprs.Expr.{Expr}
use Rattle.asm_model.specs.declared.exprs.ExprItem.{ExprItem}
use Rattle.asm_model.specs.declared.exprs.ExprItem.TheVariants as item
use Rattle.asm_model.specs.Grammar.{Tree, Leaf, Before, Between}

-- an item behind trees, the nearest first: an operator takes its operands
abbrev pub grown : ExprItem → List Tree → Option (List Tree)
grown (item.Unary op) [] = None
grown (item.Unary op) (t ∷ ts) = Some (Before op t ∷ ts)
grown (item.Binary op) [] = None
grown (item.Binary op) (u ∷ []) = None
grown (item.Binary op) (u ∷ t ∷ ts) = Some (Between op t u ∷ ts)
grown i ts = Some (Leaf i ∷ ts)

abbrev pub grown_behind : Option (List Tree) → ExprItem → Option (List Tree)
grown_behind None i = None
grown_behind (Some ts) i = grown i ts

-- one tree alone
abbrev pub alone : Option (List Tree) → Option Tree
alone None = None
alone (Some []) = None
alone (Some (t ∷ [])) = Some t
alone (Some (t ∷ u ∷ ts)) = None

abbrev pub tree_behind : Option (List Tree) → List ExprItem → Option Tree
tree_behind trees [] = alone trees
tree_behind trees (i ∷ is) = tree_behind (grown_behind trees i) is

-- the tree of an expression
abbrev pub tree_of : Expr → Option Tree
tree_of e = tree_behind (Some []) e.items
