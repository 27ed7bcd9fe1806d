-- More operands than any line has.
use Rattle.std.proofs.Common.{◌≡◌, ℕ, List, [], ◌∷◌, refl}
use Rattle.asm_model.specs.declared.tokens.Token.{Token}
use Rattle.asm_model.specs.Operands.{operands_at}
use Rattle.asm_expr.proofs.OperandLemmas.{begins}
use Rattle.asm_arm.specs.Operands.{cut, more}
use Rattle.asm_expr.proofs.ReadingLemmas.{some_operand}

pub past_four : (text : List ℕ) (os : List (List Token)) (a b c d ts : List Token) → os ≡ a ∷ b ∷ c ∷ d ∷ operands_at text 0 ts → more ≡ cut os
past_four text os a b c d ts e =
    let beyond = some_operand [] (operands_at text 0 ts) in
    rw (e, begins text 0 ts, beyond.2) refl
