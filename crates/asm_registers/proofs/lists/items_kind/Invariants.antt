use Rattle.std.proofs.Common.{◌≡◌, length}
use Rattle.asm_model.specs.FaultSets.{first_told}
use Rattle.source_model.specs.Registers.{list_registers}
use Rattle.asm_registers.specs.Scoped.{told_of}
use Rattle.asm_registers.proofs.lists.items_kind.Given as goal

abbrev pub invariant-items : goal.invariant-items
invariant-items l = first_told l.told (told_of l.scope (list_registers l.left)) ≡ told_of l.scope (list_registers l.items)

abbrev pub decreases-items : goal.decreases-items
decreases-items l = length l.left
