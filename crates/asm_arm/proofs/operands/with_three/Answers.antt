use Rattle.std.proofs.Common.{◌∷◌, ap}
use Rattle.asm_arm.proofs.CutLemmas.{past_four}
use Rattle.asm_arm.proofs.operands.with_three.Goals as goal

pub returns-in-Some : goal.returns-in-Some
returns-in-Some c =
    let cut = rw c.in-Some.is at c.first_operand.ensures in
    past_four c.args.text.now _ c.args.first.now c.args.second.now c.args.third.now c.first_operand.result.0.now c.in-Some.field-0.now
    (ap (λ x. c.args.first.now ∷ c.args.second.now ∷ c.args.third.now ∷ x) cut.0)
