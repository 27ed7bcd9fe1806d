use Rattle.std.proofs.Common.{sym}
use Rattle.expand_model.proofs.WordLemmas.{width_of_some}
use Rattle.asm_variables.proofs.line_fields.token_width.Goals as goal

pub returns-in-Some-clause-width : goal.returns-in-Some-clause-width
returns-in-Some-clause-width c =
    sym (width_of_some c.args.rest.now (c.in-Some.field-0-0, c.in-Some.width) (let the = c.longest_token.ensures in rw c.in-Some.is at the))
