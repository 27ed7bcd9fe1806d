-- The answers of evaluations at a line. ARM SDT 2.50 Reference Guide, chapter on the assembler.
use Rattle.std.specs.Prelude.{◌≡◌, ℕ, List, Result, Ok, Err}
use Rattle.sdt_fault.specs.declared.kinds.LineKind.{LineKind}
use Rattle.asm_model.specs.declared.exprs.ExprItem.{ExprItem}
use Rattle.asm_model.specs.declared.exprs.Part.{Part}
use Rattle.asm_model.specs.declared.names.Names.{Names}
use Rattle.asm_model.specs.declared.values.Value.{Value}
use Rattle.asm_model.specs.declared.values.EvalFault.{EvalFault}
use Rattle.asm_model.specs.declared.values.EvalFault.TheVariants as eval
use Rattle.asm_model.specs.AtLine.{literal_at}
use Rattle.asm_model.specs.Grammar.{Tree, postfix, IsSpelled}
use Rattle.asm_model.specs.Meaning.{meaning, IsValue}
use Rattle.asm_model.specs.Extents.{as_number}

-- an answer that is a number or the kind of a fault, unless memory ran out
abbrev pub IsNumberFault : Result ℕ LineKind → EvalFault → Type 0
IsNumberFault m (eval.Kind k) = m ≡ Err k
IsNumberFault m eval.NoMemory = Unit {0}

abbrev pub IsNumber : Result ℕ LineKind → Result ℕ EvalFault → Type 0
IsNumber m (Ok n) = m ≡ Ok n
IsNumber m (Err e) = IsNumberFault m e

-- the number for the items of an expression that tokens may spell
abbrev pub SeesNumber : Names → List ExprItem → Result ℕ EvalFault → Type 0
SeesNumber names items result =
    (ps : List Part) (t : Tree) → IsSpelled ps t → items ≡ postfix t → IsNumber (as_number (meaning names t)) result

-- the literal for the items of an expression that tokens may spell
abbrev pub SeesLiteral : Names → List ExprItem → Result Value EvalFault → Type 0
SeesLiteral names items result =
    (ps : List Part) (t : Tree) → IsSpelled ps t → items ≡ postfix t → IsValue (literal_at names t) result
