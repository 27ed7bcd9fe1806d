use Rattle.std.proofs.Common.{◌≡◌, ◌-◌}
use Rattle.source_model.specs.PseudoForms.{places, lowest_among}
use Rattle.asm_instructions.proofs.PlaceLemmas.{evens}
use Rattle.asm_instructions.proofs.pseudo.lowest_place.Given as goal

abbrev pub invariant-pairs : goal.invariant-pairs
invariant-pairs l = lowest_among places l.number ≡ lowest_among (evens l.pair (16 - l.pair)) l.number
