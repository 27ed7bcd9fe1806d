use Rattle.std.proofs.Common.{[], ◌-◌, length}
use Rattle.asm_names.specs.Equals.{pairs_of}
use Rattle.asm_names.specs.Search.{Kept}
use Rattle.asm_names.proofs.ordering.searched.Given as goal

abbrev pub invariant-places : goal.invariant-places
invariant-places l = Kept (pairs_of l.equals) l.index l.progress []

abbrev pub decreases-places : goal.decreases-places
decreases-places l = length l.equals - l.progress.done
