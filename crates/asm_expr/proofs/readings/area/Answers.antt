use Rattle.std.proofs.Common.{◌<◌, length, sym, ◌∙◌, arith}
use Rattle.std.specs.Option.{option_copied}
use Rattle.std.proofs.lemmas.Bool.{eqb-true, eqb-false}
use Rattle.asm_expr.proofs.ReadingLemmas.{area_read, no_area}
use Rattle.asm_expr.proofs.readings.area.Goals as goal

pub returns-then-is_empty : goal.returns-then-is_empty
returns-then-is_empty c =
    let tokens = c.args.tokens.now in
    no_area c.args.text.now tokens (eqb-true (length tokens) 0 (sym c.is_empty.ensures ∙ c.if-is_empty.true))

pub returns : goal.returns
returns c =
    let tokens = c.args.tokens.now in
    let some = eqb-false (length tokens) 0 (sym c.is_empty.ensures ∙ c.if-is_empty.false) in
    let longer : 0 < length tokens = omega (arith, some) in
    area_read c.args.text.now tokens c.first_operand.result.0.now (option_copied c.first_operand.result.1) c.in_ok-name.name c.in_ok-attributes.attributes
    c.area_with.result longer c.first_operand.ensures c.in_ok-name.ensures c.in_ok-attributes.ensures c.area_with.ensures
