-- Evaluation with a stack of operands, its top first. This project's: what the code does, and the laws tie it to
-- the meaning of the expression.
use Rattle.std.specs.Prelude.{List, [], ◌∷◌, map, reverse, Result, Ok, Err}
use Rattle.std.specs.Option.{option_copied}
use Rattle.sdt_fault.specs.declared.kinds.LineKind.{LineKind}
use Rattle.sdt_fault.specs.declared.kinds.LineKind.TheVariants.{Syntax}
use Rattle.asm_model.specs.declared.exprs.ExprItem.{ExprItem}
use Rattle.asm_model.specs.declared.exprs.ExprItem.TheVariants as item
use Rattle.asm_model.specs.declared.exprs.UnaryOp.{UnaryOp}
use Rattle.asm_model.specs.declared.exprs.BinaryOp.{BinaryOp}
use Rattle.asm_model.specs.declared.values.Value.{Value}
use Rattle.asm_model.specs.declared.names.Names.{Names}
use Rattle.asm_model.specs.Meaning.{Operand, Known, Unread, known, applied, binary, operand_of_item}
use Rattle.asm_model.specs.Readings.{then_both}
use Rattle.asm_expr.specs.declared.slots.Slot.{Slot}
use Rattle.asm_expr.specs.declared.slots.Slot.TheVariants as slot

-- an operator before the operand on the top
abbrev pub act_unary : UnaryOp → List Operand → List Operand
act_unary op [] = Known (Err Syntax) ∷ []
act_unary op (x ∷ s) = Known (applied op x) ∷ s

-- an operator between the two operands on the top
abbrev pub act_binary : Names → BinaryOp → List Operand → List Operand
act_binary names op [] = Known (Err Syntax) ∷ []
act_binary names op (y ∷ []) = Known (Err Syntax) ∷ []
act_binary names op (y ∷ x ∷ s) = Known (then_both (known x) (known y) (binary names op)) ∷ s

-- the stack after an item
abbrev pub act : Names → ExprItem → List Operand → List Operand
act names (item.Unary op) s = act_unary op s
act names (item.Binary op) s = act_binary names op s
act names i s = operand_of_item names i ∷ s

-- the stack after items
abbrev pub run : Names → List ExprItem → List Operand → List Operand
run names [] s = s
run names (i ∷ is) s = run names is (act names i s)

-- the value where one operand is left
abbrev pub ended : List Operand → Result Value LineKind
ended [] = Err Syntax
ended (x ∷ []) = known x
ended (y ∷ x ∷ s) = Err Syntax

-- the operand in a slot
abbrev pub operand_of : Slot → Operand
operand_of (slot.Name entry) = Unread (option_copied entry)
operand_of (slot.Constant v) = Known (Ok v.now)
operand_of (slot.Known v) = Known (Ok v)
operand_of (slot.Fault kind) = Known (Err kind)

-- the operands in slots, the last first
abbrev pub operands_of : List Slot → List Operand
operands_of slots = reverse (map operand_of slots)
