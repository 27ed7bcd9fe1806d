use Rattle.std.proofs.Common.{length}
use Rattle.asm_layout.specs.States.{AreNoted}
use Rattle.asm_layout.proofs.states.note_each.Given as goal

abbrev pub invariant-statements : goal.invariant-statements
invariant-statements l = AreNoted l.statements l.left l.areas l.behind l.states

abbrev pub decreases-statements : goal.decreases-statements
decreases-statements l = length l.left
