use Rattle.std.proofs.Common.{◌≡◌}
use Rattle.asm_locals.specs.declared.labels.Way.TheVariants as way
use Rattle.asm_locals.proofs.PassLemmas.{Behind}
use Rattle.asm_locals.proofs.passes.look_back.Given as goal

abbrev pub invariant-statements : goal.invariant-statements
invariant-statements l = (l.labels.way ≡ way.Back) × Behind l.fn.statements l.statements l.at l.labels.table.items
