use Rattle.std.proofs.Common.{◌≡◌, length}
use Rattle.asm_names.specs.Equals.{pairs_of}
use Rattle.asm_names.specs.Search.{Kept}
use Rattle.asm_names.proofs.search.look_at_all.Given as goal

abbrev pub invariant-loop-waiting : goal.invariant-loop-waiting
invariant-loop-waiting l = Kept (pairs_of l.equals) l.index l.progress l.hand.items × (l.progress.done ≡ l.initial.progress.done)

abbrev pub decreases-loop-waiting : goal.decreases-loop-waiting
decreases-loop-waiting l = length l.hand.items
