-- Steps of the code over an expression's items, each operator behind its operands. This project's.
use Rattle.std.specs.Prelude.{◌≡◌, ℕ, List, [], ◌∷◌, Bool, true, false, Option, Some, None, Result, Ok, Err}
use Rattle.sdt_fault.specs.declared.kinds.LineKind.TheVariants.{UnknownWord, WrongType, Forward}
use Rattle.asm_model.specs.declared.exprs.ExprItem.{ExprItem}
use Rattle.asm_model.specs.declared.exprs.ExprItem.TheVariants as item
use Rattle.asm_model.specs.declared.exprs.UnaryOp.{UnaryOp}
use Rattle.asm_model.specs.declared.exprs.UnaryOp.TheVariants as unary
use Rattle.asm_model.specs.declared.values.Value.{Value}
use Rattle.asm_model.specs.declared.values.Value.TheVariants.{Number, Place}
use Rattle.asm_model.specs.declared.values.EvalFault.{EvalFault}
use Rattle.asm_model.specs.declared.values.EvalFault.TheVariants as eval
use Rattle.asm_model.specs.declared.exprs.Part.{Part}
use Rattle.asm_model.specs.declared.names.Names.{Names}
use Rattle.asm_model.specs.AtLine.{kept_name, kept_names}
use Rattle.asm_model.specs.Grammar.{Tree, postfix, IsSpelled}
use Rattle.asm_model.specs.Meaning.{meaning, IsValue}
pub use Rattle.asm_expr.specs.Places.{one_entry}

-- ---- names that stay names

-- the operator of one operand that stands first
abbrev pub operator_first : List ExprItem → Option UnaryOp
operator_first (item.Unary op ∷ is) = Some op
operator_first _ = None

abbrev pub kept_before : Names → Option UnaryOp → ExprItem → ExprItem
kept_before s (Some unary.Size) i = i
kept_before s (Some unary.Defined) i = i
kept_before s op i = kept_name s i

abbrev pub kept_items : Names → List ExprItem → List ExprItem
kept_items s [] = []
kept_items s (i ∷ is) = kept_before s (operator_first is) i ∷ kept_items s is

-- ---- numbers and literals

-- a value as a number
abbrev pub number_in : Result Value EvalFault → Result ℕ EvalFault
number_in (Ok (Number n)) = Ok n
number_in (Ok _) = Err (eval.Kind WrongType)
number_in (Err e) = Err e

-- whether a value is the literal, or none is known for want of memory
abbrev pub is_settled : Result Value EvalFault → Bool
is_settled (Ok (Number n)) = true
is_settled (Ok (Place s p)) = true
is_settled (Err eval.NoMemory) = true
is_settled _ = false

-- one name plus a number, or else Forward, but where it has what nothing defines
abbrev pub place_or_forward : Result Value EvalFault → Result Value EvalFault
place_or_forward (Ok (Place s p)) = Ok (Place s p)
place_or_forward (Err eval.NoMemory) = Err eval.NoMemory
place_or_forward (Err (eval.Kind UnknownWord)) = Err (eval.Kind UnknownWord)
place_or_forward _ = Err (eval.Kind Forward)

-- the value, where names without a value stay names
abbrev pub SeesKept : Names → List ExprItem → Result Value EvalFault → Type 0
SeesKept s items result =
    (ps : List Part) (t : Tree) → IsSpelled ps t → items ≡ postfix t → IsValue (meaning s (kept_names s t)) result
