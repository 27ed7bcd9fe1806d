use Rattle.std.proofs.Common.{◌∷◌, ap}
use Rattle.asm_expr.proofs.ReadingLemmas.{past_two}
use Rattle.asm_expr.proofs.readings.multiple_and_last.Goals as goal

pub returns-in-Some : goal.returns-in-Some
returns-in-Some c =
    let cut = rw c.in-Some.is at c.first_operand.ensures in
    past_two c.args.text.now _ c.args.first.now c.first_operand.result.0.now c.in-Some.field-0.now (ap (λ x. c.args.first.now ∷ x) cut.0)
