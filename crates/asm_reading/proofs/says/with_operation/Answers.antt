use Rattle.std.proofs.Common.{refl}
use Rattle.asm_reading.specs.Says.{ReadsBy}
use Rattle.asm_reading.proofs.SayingLemmas.{operation_said}
use Rattle.asm_reading.proofs.says.with_operation.Goals as goal

pub returns : goal.returns
returns c =
    operation_said (ReadsBy c.args.thumb) c.args.line.now c.args.label c.args.operation c.args.tokens.now c.args.line.now.text c.in_ok-label.label
    c.in_ok-what.what c.statement.result refl c.in_ok-label.ensures c.in_ok-what.ensures (c.statement.ensures c.in_ok-source.ensures)
