-- The reading of an expression's parts with a stack of operators. This project's: what the code does, and the
-- laws tie it to the grammar.
use Rattle.std.specs.Prelude.{ℕ, List, [], ◌∷◌, ◌++◌, nat_le, Bool, true, false, if◌then◌else◌, Option, Some, None}
use Rattle.asm_model.specs.declared.exprs.ExprItem.{ExprItem}
use Rattle.asm_model.specs.declared.exprs.ExprItem.TheVariants as item
use Rattle.asm_model.specs.declared.exprs.Part.{Part}
use Rattle.asm_model.specs.declared.exprs.Part.TheVariants as part
use Rattle.asm_model.specs.declared.exprs.UnaryOp.{UnaryOp}
use Rattle.asm_model.specs.declared.exprs.BinaryOp.{BinaryOp}
use Rattle.asm_model.specs.Grammar.{level, plain}
use Rattle.asm_expr.specs.declared.parser.Stage.{Stage}
use Rattle.asm_expr.specs.declared.parser.Stage.TheVariants as stage
use Rattle.asm_expr.specs.declared.parser.Held.{Held}
use Rattle.asm_expr.specs.declared.parser.Held.TheVariants as held

-- what is due, the items so far, and the stack, its top first
pub record State : Type 0 where
  pub due : Stage
  pub items : List ExprItem
  pub stack : List Held

-- whether what waits goes out before an operator of a level
abbrev pub is_tight : ℕ → Held → Bool
is_tight l held.Open = false
is_tight l (held.Before op) = true
is_tight l (held.Between op) = nat_le (level op) l

-- the item of an operator that waits
abbrev pub item_of : Held → ExprItem
item_of held.Open = item.Here
item_of (held.Before op) = item.Unary op
item_of (held.Between op) = item.Binary op

-- the operators of a level or tighter go out
abbrev pub settled : ℕ → List ExprItem → List Held → List ExprItem × List Held
settled l items [] = (items, [])
settled l items (h ∷ hs) = if is_tight l h then settled l (items ++ item_of h ∷ []) hs else (items, h ∷ hs)

-- an operator between operands
abbrev pub joined : BinaryOp → List ExprItem × List Held → State
joined op s = record { due = stage.Operand; items = s.0; stack = held.Between op ∷ s.1 }

-- a closing parenthesis
abbrev pub closed : List ExprItem → List Held → Option State
closed items [] = None
closed items (held.Open ∷ hs) = Some (record { due = stage.Operator; items = items; stack = hs })
closed items (held.Before op ∷ hs) = None
closed items (held.Between op ∷ hs) = None

-- what waits for an operand
abbrev pub held_back : List ExprItem → Held → List Held → State
held_back items h hs = record { due = stage.Operand; items = items; stack = h ∷ hs }

-- an operand
abbrev pub put : List ExprItem → List Held → Option ExprItem → Option State
put items hs None = None
put items hs (Some i) = Some (record { due = stage.Operator; items = items ++ i ∷ []; stack = hs })

abbrev pub on_operand : List ExprItem → List Held → Part → Option State
on_operand items hs (part.Operand i) = put items hs (plain i)
on_operand items hs part.Open = Some (record { due = stage.Operand; items = items; stack = held.Open ∷ hs })
on_operand items hs part.Close = None
on_operand items hs (part.Prefix op) = Some (record { due = stage.Operand; items = items; stack = held.Before op ∷ hs })
on_operand items hs (part.OfName op) = Some (record { due = stage.Name op; items = items; stack = hs })
on_operand items hs (part.Infix op) = None
on_operand items hs (part.Sum u b) = Some (record { due = stage.Operand; items = items; stack = held.Before u ∷ hs })
on_operand items hs part.Other = None

-- whether an item is a name
abbrev pub is_name : ExprItem → Bool
is_name (item.Name name) = true
is_name _ = false

abbrev pub on_named : UnaryOp → List ExprItem → List Held → ExprItem → Option State
on_named op items hs (item.Name name) =
    Some (record { due = stage.Operator; items = items ++ item.Name name ∷ item.Unary op ∷ []; stack = hs })
on_named op items hs (item.Local name) = None
on_named op items hs (item.Constant v) = None
on_named op items hs item.TooLarge = None
on_named op items hs item.Here = None
on_named op items hs item.Map = None
on_named op items hs item.CodeSize = None
on_named op items hs (item.Unary u) = None
on_named op items hs (item.Binary b) = None

abbrev pub on_name : UnaryOp → List ExprItem → List Held → Part → Option State
on_name op items hs (part.Operand i) = on_named op items hs i
on_name op items hs part.Open = None
on_name op items hs part.Close = None
on_name op items hs (part.Prefix u) = None
on_name op items hs (part.OfName u) = None
on_name op items hs (part.Infix b) = None
on_name op items hs (part.Sum u b) = None
on_name op items hs part.Other = None

abbrev pub on_operator : List ExprItem → List Held → Part → Option State
on_operator items hs (part.Operand i) = None
on_operator items hs part.Open = None
on_operator items hs part.Close = closed (settled 6 items hs).0 (settled 6 items hs).1
on_operator items hs (part.Prefix op) = None
on_operator items hs (part.OfName op) = None
on_operator items hs (part.Infix op) = Some (joined op (settled (level op) items hs))
on_operator items hs (part.Sum u b) = Some (joined b (settled (level b) items hs))
on_operator items hs part.Other = None

-- a state after one part more
abbrev pub step_at : Stage → List ExprItem → List Held → Part → Option State
step_at stage.Operand items hs p = on_operand items hs p
step_at (stage.Name op) items hs p = on_name op items hs p
step_at stage.Operator items hs p = on_operator items hs p

unfoldable pub step : State → Part → Option State
step s p = step_at s.due s.items s.stack p

-- the items where nothing waits
abbrev pub emptied : List ExprItem × List Held → Option (List ExprItem)
emptied s = if_empty s.1
  where
    if_empty : List Held → Option (List ExprItem)
    if_empty [] = Some s.0
    if_empty (h ∷ hs) = None

abbrev pub finished_at : Stage → List ExprItem → List Held → Option (List ExprItem)
finished_at stage.Operand items hs = None
finished_at (stage.Name op) items hs = None
finished_at stage.Operator items hs = emptied (settled 6 items hs)

unfoldable pub finished : State → Option (List ExprItem)
finished s = finished_at s.due s.items s.stack

-- the items that parts spell
abbrev pub parsed : Option State → List Part → Option (List ExprItem)
parsed None ps = None
parsed (Some s) [] = finished s
parsed (Some s) (p ∷ ps) = parsed (step s p) ps

abbrev pub started : State
started = record { due = stage.Operand; items = []; stack = [] }
