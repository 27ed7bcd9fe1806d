-- The grammar of expressions: operators have levels, each level joins to the left, and parentheses group. The
-- levels are this project's profile of those in the ARM SDT 2.50 Reference Guide, chapter on the assembler.
use Rattle.std.specs.Prelude.{◌≡◌, ℕ, suc, List, [], ◌∷◌, ◌++◌, Option, Some, None, map, Result, Ok, Err}
use Rattle.sdt_fault.specs.declared.kinds.LineKind.{LineKind}
use Rattle.sdt_fault.specs.declared.kinds.LineKind.TheVariants.{Syntax}
use Rattle.asm_model.specs.declared.tokens.Token.{Token}
use Rattle.asm_model.specs.declared.exprs.Expr.{Expr}
use Rattle.asm_model.specs.declared.exprs.ExprItem.{ExprItem}
use Rattle.asm_model.specs.declared.exprs.ExprItem.TheVariants as item
use Rattle.asm_model.specs.declared.exprs.Part.{Part}
use Rattle.asm_model.specs.declared.exprs.Part.TheVariants as part
use Rattle.asm_model.specs.declared.exprs.UnaryOp.{UnaryOp}
use Rattle.asm_model.specs.declared.exprs.BinaryOp.{BinaryOp}
use Rattle.asm_model.specs.declared.exprs.BinaryOp.TheVariants.{Multiply, Divide, Modulo, Left, Right, Concatenate, RotateLeft}
use Rattle.asm_model.specs.declared.exprs.BinaryOp.TheVariants.{RotateRight, ShiftLeft, ShiftRight, Add, Subtract, And}
use Rattle.asm_model.specs.declared.exprs.BinaryOp.TheVariants.{Or, ExclusiveOr, Equal, NotEqual, Less, LessEqual, Greater}
use Rattle.asm_model.specs.declared.exprs.BinaryOp.TheVariants.{GreaterEqual, LogicalAnd, LogicalOr, LogicalExclusiveOr}
use Rattle.asm_model.specs.Parts.{part_of}

-- the level of an operator between operands, the tightest first; operators before an operand are tighter
abbrev pub level : BinaryOp → ℕ
level Multiply = 1
level Divide = 1
level Modulo = 1
level Left = 2
level Right = 2
level Concatenate = 2
level RotateLeft = 3
level RotateRight = 3
level ShiftLeft = 3
level ShiftRight = 3
level Add = 4
level Subtract = 4
level And = 4
level Or = 4
level ExclusiveOr = 4
level Equal = 5
level NotEqual = 5
level Less = 5
level LessEqual = 5
level Greater = 5
level GreaterEqual = 5
level LogicalAnd = 6
level LogicalOr = 6
level LogicalExclusiveOr = 6

-- an expression with all its brackets
pub data Tree : Type 0 where
  Leaf : ExprItem → Tree
  Before : UnaryOp → Tree → Tree
  Between : BinaryOp → Tree → Tree → Tree

-- its items, each operator after its operands
abbrev pub postfix : Tree → List ExprItem
postfix (Leaf i) = i ∷ []
postfix (Before op t) = postfix t ++ item.Unary op ∷ []
postfix (Between op t u) = postfix t ++ postfix u ++ item.Binary op ∷ []

-- an item that is an operand
abbrev pub plain : ExprItem → Option ExprItem
plain (item.Unary op) = None
plain (item.Binary op) = None
plain i = Some i

-- the operand that a part is
abbrev pub operand_of : Part → Option ExprItem
operand_of (part.Operand i) = plain i
operand_of part.Open = None
operand_of part.Close = None
operand_of (part.Prefix op) = None
operand_of (part.OfName op) = None
operand_of (part.Infix op) = None
operand_of (part.Sum u b) = None
operand_of part.Other = None

-- the operator that a part is before an operand
abbrev pub before_of : Part → Option UnaryOp
before_of (part.Operand i) = None
before_of part.Open = None
before_of part.Close = None
before_of (part.Prefix op) = Some op
before_of (part.OfName op) = None
before_of (part.Infix op) = None
before_of (part.Sum u b) = Some u
before_of part.Other = None

-- the operator that a part is between operands
abbrev pub between_of : Part → Option BinaryOp
between_of (part.Operand i) = None
between_of part.Open = None
between_of part.Close = None
between_of (part.Prefix op) = None
between_of (part.OfName op) = None
between_of (part.Infix op) = Some op
between_of (part.Sum u b) = Some b
between_of part.Other = None

-- the parts of an expression whose operators outside parentheses are of a level or tighter
pub data Spells : ℕ → List Part → Tree → Type 0 where
  operand : (p : Part) (i : ExprItem) → operand_of p ≡ Some i → Spells 0 (p ∷ []) (Leaf i)
  of_name : (op : UnaryOp) (name : List ℕ) → Spells 0 (part.OfName op ∷ part.Operand (item.Name name) ∷ [])
      (Before op (Leaf (item.Name name)))
  before : (p : Part) (op : UnaryOp) (ps : List Part) (t : Tree) → before_of p ≡ Some op → Spells 0 ps t → Spells 0 (p ∷ ps) (Before op t)
  grouped : (ps : List Part) (t : Tree) → Spells 6 ps t → Spells 0 (part.Open ∷ ps ++ part.Close ∷ []) t
  between : (l : ℕ) (p : Part) (op : BinaryOp) (ps qs : List Part) (t u : Tree) → between_of p ≡ Some op → level op ≡ suc l
      → Spells (suc l) ps t → Spells l qs u → Spells (suc l) (ps ++ p ∷ qs) (Between op t u)
  tighter : (l : ℕ) (ps : List Part) (t : Tree) → Spells l ps t → Spells (suc l) ps t

-- the parts of an expression
abbrev pub IsSpelled : List Part → Tree → Type 0
IsSpelled ps t = Spells 6 ps t

-- what reading tokens of a line as an expression gives: its items, or Syntax exactly where they spell none
abbrev pub Parses : List Part → Result Expr LineKind → Type 0
Parses ps (Ok e) = (t : Tree) × IsSpelled ps t × (e.items ≡ postfix t)
Parses ps (Err kind) = (kind ≡ Syntax) × ((t : Tree) → IsSpelled ps t → ⊥)

-- the same, of tokens of a line
abbrev pub ParsesTokens : List ℕ → List Token → Result Expr LineKind → Type 0
ParsesTokens text ts outcome = Parses (map (part_of text) ts) outcome

-- tokens have one list of items, or one fault
abbrev pub OneParse : Type 0
OneParse = (ps : List Part) (a b : Result Expr LineKind) → Parses ps a → Parses ps b → a ≡ b
