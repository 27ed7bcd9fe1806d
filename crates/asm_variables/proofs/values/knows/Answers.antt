use Rattle.std.proofs.Common.{sym, ◌∙◌}
use Rattle.asm_variables.proofs.KnownLemmas.{known_some}
use Rattle.asm_variables.proofs.values.knows.Goals as goal

pub returns : goal.returns
returns c = λ s r. c.has_value.ensures s r ∙ sym (known_some c.args.visible c.args.name.now s)
