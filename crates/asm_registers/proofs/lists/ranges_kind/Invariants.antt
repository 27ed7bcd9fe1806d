use Rattle.std.proofs.Common.{◌≡◌, length}
use Rattle.asm_model.specs.FaultSets.{first_told}
use Rattle.asm_model.specs.Kinds.{told_kind}
use Rattle.source_model.specs.Registers.{range_kinds}
use Rattle.asm_registers.proofs.lists.ranges_kind.Given as goal

abbrev pub invariant-items : goal.invariant-items
invariant-items l = first_told l.told (told_kind (range_kinds l.known l.left)) ≡ told_kind (range_kinds l.known l.items)

abbrev pub decreases-items : goal.decreases-items
decreases-items l = length l.left
