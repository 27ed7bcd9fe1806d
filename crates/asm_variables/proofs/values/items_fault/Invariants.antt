use Rattle.std.proofs.Common.{◌≡◌, length}
use Rattle.asm_model.specs.FaultSets.{first_told}
use Rattle.asm_model.specs.Kinds.{told_kind}
use Rattle.expand_model.specs.States.{State}
use Rattle.asm_variables.specs.Expanding.{Represents}
use Rattle.asm_variables.specs.Known.{entries_in, items_kinds}
use Rattle.asm_variables.proofs.values.items_fault.Given as goal

abbrev pub invariant-items : goal.invariant-items
invariant-items l =
    (s : State) → Represents l.state s
    → first_told l.told (told_kind (items_kinds (entries_in l.visible s) l.left)) ≡ told_kind (items_kinds (entries_in l.visible s) l.items)

abbrev pub decreases-items : goal.decreases-items
decreases-items l = length l.left
