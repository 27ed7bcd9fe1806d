use Rattle.std.proofs.Common.{List, ap, ◌∙◌}
use Rattle.std.proofs.lemmas.Result.{IfOk-weaker}
use Rattle.asm_model.specs.declared.tokens.Token.{Token}
use Rattle.asm_model.specs.Says.{Sentence, sentence}
use Rattle.asm_expand.proofs.ReadingLemmas.{read_none, read_all}
use Rattle.asm_expand.proofs.first_lines.expression_in.Goals as goal

pub returns-in_default : goal.returns-in_default
returns-in_default c = read_none c.args.text.now (rw c.in_default.is at c.in_ok-found.ensures)

pub returns : goal.returns
returns c =
    IfOk-weaker c.expression-read.result _ _
    (λ x h.
    read_all c.args.text.now c.in-Some.tokens.items c.parts_of.result.behind.now x (rw c.in-Some.is at c.in_ok-found.ensures)
    (ap (λ (s : Sentence). s.behind) c.parts_of.ensures ∙ ap (λ (ts : List Token). (sentence ts).behind) c.as_slice.ensures.value) h)
    c.expression-read.ensures
