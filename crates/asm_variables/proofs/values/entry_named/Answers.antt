use Rattle.std.proofs.Common.{sym, ◌∙◌}
use Rattle.asm_variables.proofs.KnownLemmas.{entry_some}
use Rattle.asm_variables.proofs.values.entry_named.Goals as goal

pub returns : goal.returns
returns c = λ s r. rw c.in_ok-entry.ensures (entry_some c.args.visible c.args.name.now s c.in-Some.value (sym c.in-Some.is ∙ c.in_ok-found.ensures s r))
