use Rattle.asm_expr.proofs.SayingLemmas.{told_said}
use Rattle.asm_reading.specs.Says.{SaysThumb}
use Rattle.asm_reading.proofs.says.parse_thumb.Goals as goal

pub returns : goal.returns
returns c =
    let line = c.args.line.now in
    told_said line.source line.number (SaysThumb line) c.said_alone-said.result c.statement_or_refusal.result c.said_alone-said.ensures c.statement_or_refusal.ensures
