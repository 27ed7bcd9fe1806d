use Rattle.std.proofs.Common.{◌∙◌, sym}
use Rattle.asm_lines.proofs.FirstLemmas.{empty_best_of, letter_best_of, alone_best_of, digit_best_of, other_best_of}
use Rattle.asm_lines.proofs.KindLemmas.{best_within}
use Rattle.asm_lines.proofs.scan.best_of.Goals as goal

pub returns-in_default-clause-value : goal.returns-in_default-clause-value
returns-in_default-clause-value c = empty_best_of c.args.rest.now c.in_default.ensures.cases

pub returns-then-is_letter-clause-value : goal.returns-then-is_letter-clause-value
returns-then-is_letter-clause-value c =
    letter_best_of c.args.rest.now c.in-Some.first.now c.in-Some.field-0-1.now c.run_len.result c.in-Some.ensures.cases.0
    (sym c.is_letter.ensures ∙ c.if-is_letter.true)
    c.run_len.ensures.run

pub returns-then-is_digit-clause-value : goal.returns-then-is_digit-clause-value
returns-then-is_digit-clause-value c =
    digit_best_of c.args.rest.now c.in-Some.first.now c.in-Some.field-0-1.now c.number_len.result c.longer.result c.in-Some.ensures.cases.0
    (sym c.is_letter.ensures ∙ c.if-is_letter.false) (sym c.is_digit.ensures ∙ c.if-is_digit.true) c.number_len.ensures.value c.longer.ensures

pub returns-then-is_alone-clause-value : goal.returns-then-is_alone-clause-value
returns-then-is_alone-clause-value c =
    alone_best_of c.args.rest.now c.in-Some.first.now c.in-Some.field-0-1.now c.in-Some.ensures.cases.0 (sym c.is_alone.ensures ∙ c.if-is_alone.true)

pub returns-clause-value : goal.returns-clause-value
returns-clause-value c =
    other_best_of c.args.rest.now c.in-Some.first.now c.in-Some.field-0-1.now c.other_of.result
    c.in-Some.ensures.cases.0 (sym c.is_letter.ensures ∙ c.if-is_letter.false) (sym c.is_digit.ensures ∙ c.if-is_digit.false) c.other_of.ensures

pub returns-clause-within : goal.returns-clause-within
returns-clause-within c = rw (returns-clause-value c) (best_within c.args.rest.now)
