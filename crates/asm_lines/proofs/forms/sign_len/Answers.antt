use Rattle.std.proofs.Common.{refl}
use Rattle.asm_lines.proofs.FirstLemmas.{sign_at}
use Rattle.asm_lines.proofs.forms.sign_len.Goals as goal

pub returns-in-58-clause-value : goal.returns-in-58-clause-value
returns-in-58-clause-value c =
    sign_at 58 c.args.rest.now c.in-Some.first.now c.in-Some.field-0-1.now c.one_of_len.result c.in-Some.ensures.cases.0 c.in-58.is refl
    c.one_of_len.ensures.value

pub returns-in-61-clause-value : goal.returns-in-61-clause-value
returns-in-61-clause-value c =
    sign_at 61 c.args.rest.now c.in-Some.first.now c.in-Some.field-0-1.now c.one_of_len-in-61.result c.in-Some.ensures.cases.0 c.in-61.is refl
    c.one_of_len-in-61.ensures.value

pub returns-in-47-clause-value : goal.returns-in-47-clause-value
returns-in-47-clause-value c =
    sign_at 47 c.args.rest.now c.in-Some.first.now c.in-Some.field-0-1.now c.one_of_len-in-47.result c.in-Some.ensures.cases.0 c.in-47.is refl
    c.one_of_len-in-47.ensures.value

pub returns-in-60-clause-value : goal.returns-in-60-clause-value
returns-in-60-clause-value c =
    sign_at 60 c.args.rest.now c.in-Some.first.now c.in-Some.field-0-1.now c.one_of_len-in-60.result c.in-Some.ensures.cases.0 c.in-60.is refl
    c.one_of_len-in-60.ensures.value

pub returns-in-62-clause-value : goal.returns-in-62-clause-value
returns-in-62-clause-value c =
    sign_at 62 c.args.rest.now c.in-Some.first.now c.in-Some.field-0-1.now c.one_of_len-in-62.result c.in-Some.ensures.cases.0 c.in-62.is refl
    c.one_of_len-in-62.ensures.value
