use Rattle.std.proofs.Common.{◌≡◌, length}
use Rattle.asm_model.specs.Said.{AllRead}
use Rattle.asm_instructions.specs.Lookups.{context_of}
use Rattle.asm_units.specs.Emitting.{all_emitted}
use Rattle.asm_units.specs.Marked.{marked_units}
use Rattle.asm_units.proofs.JoinLemmas.{joined}
use Rattle.asm_units.proofs.bytes.bytes.Given as goal

abbrev pub invariant-operands : goal.invariant-operands
invariant-operands l =
    AllRead l.left
    × (joined (all_emitted l.so_far) (marked_units (context_of l.tables.lookup) l.marks l.left) ≡ marked_units (context_of l.tables.lookup) l.tables.strings.now
    l.operands)

abbrev pub decreases-operands : goal.decreases-operands
decreases-operands l = length l.left
