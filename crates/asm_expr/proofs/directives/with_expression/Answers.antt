use Rattle.asm_model.specs.Says.{form_of_directive}
use Rattle.asm_expr.proofs.FormLemmas.{expression_refused, expression_made}
use Rattle.asm_expr.proofs.directives.with_expression.Goals as goal

pub returns-in-Err : goal.returns-in-Err
returns-in-Err c =
    expression_refused c.args.text.now (form_of_directive c.args.directive) c.args.tokens.now c.in_ok-value.field-0 c.in-Err.kind c.in_ok-value.ensures
    c.in-Err.is

pub returns : goal.returns
returns c =
    expression_made c.args.text.now (form_of_directive c.args.directive) c.args.tokens.now c.in_ok-value.field-0 c.in-Ok.value c.of_expression.result
    c.in_ok-value.ensures c.in-Ok.is c.of_expression.ensures
