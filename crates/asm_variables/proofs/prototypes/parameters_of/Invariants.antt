use Rattle.std.proofs.Common.{◌-◌, length}
use Rattle.asm_variables.proofs.prototypes.parameters_of.Given as goal
use Rattle.asm_variables.proofs.PrototypeLemmas.{IsReading}

abbrev pub invariant-texts : goal.invariant-texts
invariant-texts l = IsReading l.texts l.parameters.items l.at

abbrev pub decreases-texts : goal.decreases-texts
decreases-texts l = length l.texts - l.at
