use Rattle.std.proofs.Common.{arith, ◌+◌, ◌*◌, ◌∙◌, refl}
use Rattle.asm_expr.proofs.DigitLemmas.{digits_step, digits_over}
use Rattle.asm_expr.proofs.parts.digits_value.Goals as goal

pub returns-then-value-from : goal.returns-then-value-from
returns-then-value-from c =
    digits_over c.args.base c.digits.value c.digits.c-index c.from.result c.from-in-digits.result (c.digits.value * c.from.result + c.from-in-digits.result)
    c.args.digits.now
    c.digits-test.true c.from.ensures (c.from-in-digits.ensures ∙ c.digit_value.ensures) refl (omega (arith, c.type_inv.digits c.digits.c-index)) (omega arith)
    c.digits.invariant.value

pub digits-preserved : goal.digits-preserved
digits-preserved c =
    record {
      value =
          digits_step c.args.base c.digits.value c.digits.c-index c.from.result c.from-in-digits.result
          (c.digits.value * c.from.result + c.from-in-digits.result) c.args.digits.now
          c.digits-test.true c.from.ensures (c.from-in-digits.ensures ∙ c.digit_value.ensures) refl ∙ c.digits.invariant.value;
      fits = omega arith;
    }
