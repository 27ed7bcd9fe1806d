use Rattle.std.proofs.Common.{◌-◌, length}
use Rattle.asm_variables.proofs.pairing.skip.Given as goal
use Rattle.asm_variables.proofs.PairLemmas.{IsSkipping}

abbrev pub invariant-lines : goal.invariant-lines
invariant-lines l = IsSkipping l.fn.opening l.visits l.lines l.innermost l.outer.items l.at

abbrev pub decreases-lines : goal.decreases-lines
decreases-lines l = length l.lines - l.at
