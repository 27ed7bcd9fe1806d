use Rattle.std.proofs.Common.{◌≡◌, ◌++◌, length}
use Rattle.asm_model.specs.Operands.{operands_at}
use Rattle.asm_model.specs.Readings.{on_both}
use Rattle.asm_arm.specs.Lists.{items}
use Rattle.asm_arm.proofs.lists.items.Given as goal

abbrev pub invariant-operands : goal.invariant-operands
invariant-operands l =
    on_both (λ es fs. es ++ fs) l.so_far (items l.text (operands_at l.text 0 l.left)) ≡ items l.text (operands_at l.text 0 l.tokens)

abbrev pub decreases-operands : goal.decreases-operands
decreases-operands l = length l.left
