use Rattle.std.proofs.Common.{◌≡◌, ◌++◌, length}
use Rattle.std.specs.Prelude.{map}
use Rattle.source_model.specs.Units.{instruction_units}
use Rattle.asm_units.specs.Emitting.{emitted_of, units_in}
use Rattle.asm_units.proofs.instructions.instruction_units.Given as goal

abbrev pub invariant-instructions : goal.invariant-instructions
invariant-instructions l = map emitted_of (units_in l.units) ++ instruction_units l.left ≡ instruction_units l.instructions

abbrev pub decreases-instructions : goal.decreases-instructions
decreases-instructions l = length l.left
