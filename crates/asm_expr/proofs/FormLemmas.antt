-- Readings in the form of an expression.
use Rattle.std.proofs.Common.{◌≡◌, ◌∙◌, ℕ, List, refl}
use Rattle.std.specs.Prelude.{Result, Ok, Err}
use Rattle.sdt_fault.specs.declared.kinds.LineKind.{LineKind}
use Rattle.asm_model.specs.declared.tokens.Token.{Token}
use Rattle.asm_model.specs.declared.exprs.Expr.{Expr}
use Rattle.asm_model.specs.declared.directives.DirectiveLine.{DirectiveLine}
use Rattle.asm_model.specs.Grammar.{ParsesTokens}
use Rattle.asm_model.specs.Says.{Form, bare, name, imported, expression, expressions, area, register, boundary, refused}
use Rattle.asm_expr.specs.FormSteps.{expression_in, ReadsExpression}

pub expression_refused : (text : List ℕ) (f : Form) (ts : List Token) (e : Result Expr LineKind) (k : LineKind) → ParsesTokens text ts e → e ≡ Err k
    → ReadsExpression text f ts (Err k)
expression_refused text (expression make) ts e k p eq = (e, p, rw eq refl)
expression_refused text (bare l) ts e k p eq = tt
expression_refused text (name make) ts e k p eq = tt
expression_refused text (imported make) ts e k p eq = tt
expression_refused text (expressions make) ts e k p eq = tt
expression_refused text area ts e k p eq = tt
expression_refused text register ts e k p eq = tt
expression_refused text boundary ts e k p eq = tt
expression_refused text (refused j) ts e k p eq = tt

pub expression_made : (text : List ℕ) (f : Form) (ts : List Token) (e : Result Expr LineKind) (x : Expr) (r : Result DirectiveLine LineKind)
    → ParsesTokens text ts e → e ≡ Ok x → r ≡ expression_in f x → ReadsExpression text f ts r
expression_made text (expression make) ts e x r p eq er = (e, p, er ∙ rw eq refl)
expression_made text (bare l) ts e x r p eq er = tt
expression_made text (name make) ts e x r p eq er = tt
expression_made text (imported make) ts e x r p eq er = tt
expression_made text (expressions make) ts e x r p eq er = tt
expression_made text area ts e x r p eq er = tt
expression_made text register ts e x r p eq er = tt
expression_made text boundary ts e x r p eq er = tt
expression_made text (refused j) ts e x r p eq er = tt
