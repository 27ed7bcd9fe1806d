use Rattle.std.proofs.Common.{length}
use Rattle.asm_registers.proofs.NameLemmas.{IsBetween}
use Rattle.asm_registers.proofs.giving.register_names.Given as goal

abbrev pub invariant-statements : goal.invariant-statements
invariant-statements l = IsBetween l.statements l.left l.all

abbrev pub decreases-statements : goal.decreases-statements
decreases-statements l = length l.left
