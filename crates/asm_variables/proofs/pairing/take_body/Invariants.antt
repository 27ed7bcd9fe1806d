use Rattle.std.proofs.Common.{◌-◌, length}
use Rattle.asm_variables.proofs.pairing.take_body.Given as goal
use Rattle.asm_variables.proofs.TakingLemmas.{IsTaking}

abbrev pub invariant-lines : goal.invariant-lines
invariant-lines l = IsTaking l.visits l.lines l.at

abbrev pub decreases-lines : goal.decreases-lines
decreases-lines l = length l.lines - l.at
