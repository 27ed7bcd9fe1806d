use Rattle.std.proofs.Common.{map}
use Rattle.asm_model.specs.Parts.{part_of}
use Rattle.asm_expr.proofs.ParseLaws.{parsed_none}
use Rattle.asm_expr.proofs.Spelled.{parsed_spelled}
use Rattle.asm_expr.proofs.read.shared_expression.Goals as goal

pub returns-in-None : goal.returns-in-None
returns-in-None c = parsed_none (map (part_of c.args.text.now) c.args.tokens.now) (rw c.in-None.is at c.in_ok-read.ensures)

pub returns-in-Some : goal.returns-in-Some
returns-in-Some c =
    parsed_spelled (map (part_of c.args.text.now) c.args.tokens.now) c.in-Some.expression.items (rw c.in-Some.is at c.in_ok-read.ensures)
