use Rattle.asm_model.specs.Says.{SaysDirective}
use Rattle.asm_expr.proofs.SayingLemmas.{told_said}
use Rattle.asm_expr.proofs.says.parse_directive.Goals as goal

pub returns : goal.returns
returns c =
    let line = c.args.line.now in
    told_said line.source line.number (SaysDirective line c.args.tokens.now) c.said_directive-said.result c.statement_or_refusal.result
    c.said_directive-said.ensures c.statement_or_refusal.ensures
