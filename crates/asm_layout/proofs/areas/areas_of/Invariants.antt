use Rattle.asm_layout.specs.Areas.{AreMade}
use Rattle.asm_layout.proofs.areas.areas_of.Given as goal

abbrev pub invariant-areas : goal.invariant-areas
invariant-areas l = AreMade l.yielded l.areas.items
