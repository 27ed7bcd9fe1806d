-- What holds of the items of an expression holds of its tree.
use Rattle.std.proofs.Common.{◌≡◌, List, [], ◌∷◌, subst, Option, Some, None}
use Rattle.asm_model.specs.declared.exprs.ExprItem.{ExprItem}
use Rattle.asm_model.specs.declared.exprs.ExprItem.TheVariants as item
use Rattle.asm_model.specs.Grammar.{Tree, Leaf, Before, Between}
use Rattle.asm_model.specs.Trees.{grown, grown_behind, alone, tree_behind}

-- ---- the items of trees

abbrev pub ItemsEach : (ExprItem → Type 0) → List ExprItem → Type 0
ItemsEach Q [] = Unit {0}
ItemsEach Q (i ∷ is) = Q i × ItemsEach Q is

abbrev pub TreeEach : (ExprItem → Type 0) → Tree → Type 0
TreeEach Q (Leaf i) = Q i
TreeEach Q (Before op t) = TreeEach Q t
TreeEach Q (Between op t u) = TreeEach Q t × TreeEach Q u

abbrev pub TreesEach : (ExprItem → Type 0) → List Tree → Type 0
TreesEach Q [] = Unit {0}
TreesEach Q (t ∷ ts) = TreeEach Q t × TreesEach Q ts

abbrev pub SomeEach : (ExprItem → Type 0) → Option (List Tree) → Type 0
SomeEach Q None = Unit {0}
SomeEach Q (Some ts) = TreesEach Q ts

pub grown_each : (Q : ExprItem → Type 0) (i : ExprItem) (ts : List Tree) → Q i → TreesEach Q ts → SomeEach Q (grown i ts)
grown_each Q (item.Unary op) [] h k = tt
grown_each Q (item.Unary op) (t ∷ ts) h k = k
grown_each Q (item.Binary op) [] h k = tt
grown_each Q (item.Binary op) (u ∷ []) h k = tt
grown_each Q (item.Binary op) (u ∷ t ∷ ts) h k = ((k.1.0, k.0), k.1.1)
grown_each Q i ts h k = (h, k)

pub behind_each : (Q : ExprItem → Type 0) (i : ExprItem) (o : Option (List Tree)) → Q i → SomeEach Q o → SomeEach Q (grown_behind o i)
behind_each Q i None h k = tt
behind_each Q i (Some ts) h k = grown_each Q i ts h k

pub alone_each : (Q : ExprItem → Type 0) (o : Option (List Tree)) (t : Tree) → SomeEach Q o → alone o ≡ Some t → TreeEach Q t
alone_each Q None t h e = absurd (cc)
alone_each Q (Some []) t h e = absurd (cc)
alone_each Q (Some (u ∷ [])) t h e = let x : u ≡ t = cc in subst (TreeEach Q) x h.0
alone_each Q (Some (u ∷ v ∷ ts)) t h e = absurd (cc)

pub tree_each : (Q : ExprItem → Type 0) (is : List ExprItem) (o : Option (List Tree)) (t : Tree) → ItemsEach Q is → SomeEach Q o → tree_behind o is ≡ Some t
    → TreeEach Q t
tree_each Q [] o t h k e = alone_each Q o t k e
tree_each Q (i ∷ is) o t h k e = tree_each Q is (grown_behind o i) t h.1 (behind_each Q i o h.0 k) e
