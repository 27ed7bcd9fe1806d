use Rattle.std.proofs.Common.{sym, ◌∙◌}
use Rattle.asm_variables.specs.Steps.{words_shown}
use Rattle.asm_expand.proofs.CalledLemmas.{plain_kind}
use Rattle.asm_expand.proofs.first_lines.stays.Goals as goal

pub returns-clause-plain : goal.returns-clause-plain
returns-clause-plain c =
    λ t s r.
    plain_kind c.args.state.now s (words_shown c.args.words) r (c.is_empty.ensures.0 c.if-not-is_empty.false) (sym c.operation_of.ensures ∙ c.in_default.is)
