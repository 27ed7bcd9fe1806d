use Rattle.std.proofs.Common.{◌≡◌}
use Rattle.asm_locals.specs.declared.labels.Way.TheVariants as way
use Rattle.asm_locals.proofs.PassLemmas.{Ahead}
use Rattle.asm_locals.proofs.passes.look_ahead.Given as goal

abbrev pub invariant-statements : goal.invariant-statements
invariant-statements l = (l.labels.way ≡ way.Forth) × Ahead l.fn.statements l.statements l.left l.labels.table.items

abbrev pub decreases-statements : goal.decreases-statements
decreases-statements l = l.left
