use Rattle.asm_expr.proofs.ParseLaws.{one_reading}
use Rattle.asm_expr.proofs.read.one_parse.Goals as goal

pub returns : goal.returns
returns c = one_reading
