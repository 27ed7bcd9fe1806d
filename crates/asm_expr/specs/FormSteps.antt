-- Steps of the code that reads the operands of a directive. This project's.
use Rattle.std.specs.Prelude.{ℕ, List, Result, Ok, Err}
use Rattle.sdt_fault.specs.declared.kinds.LineKind.{LineKind}
use Rattle.sdt_fault.specs.declared.kinds.LineKind.TheVariants.{Syntax}
use Rattle.asm_model.specs.declared.tokens.Token.{Token}
use Rattle.asm_model.specs.declared.exprs.Expr.{Expr}
use Rattle.asm_model.specs.declared.directives.DirectiveLine.{DirectiveLine}
use Rattle.asm_model.specs.Says.{Form, expression, Expression}

-- what an expression makes in a form; Syntax in one that has none
abbrev pub expression_in : Form → Expr → Result DirectiveLine LineKind
expression_in (expression make) e = Ok (make e)
expression_in _ e = Err Syntax

-- what tokens read as in the form of an expression
abbrev pub ReadsExpression : List ℕ → Form → List Token → Result DirectiveLine LineKind → Type 0
ReadsExpression text (expression make) ts r = Expression text make ts r
ReadsExpression text _ ts r = Unit {0}
