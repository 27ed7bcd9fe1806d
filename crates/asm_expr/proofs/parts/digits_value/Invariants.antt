use Rattle.std.proofs.Common.{◌≡◌, ◌^◌, ◌<◌, ◌+◌, ◌*◌, drop, fold}
use Rattle.asm_model.specs.Parts.{digit_value, digits_value}
use Rattle.asm_expr.proofs.parts.digits_value.Given as goal

abbrev pub invariant-digits : goal.invariant-digits
invariant-digits l = record {
  value : fold (λ n c. l.base * n + digit_value c) l.value (drop l.c-index l.digits) ≡ digits_value l.base l.digits;
  fits : l.value < 2 ^ 32;
}
