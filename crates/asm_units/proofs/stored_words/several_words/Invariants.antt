use Rattle.std.proofs.Common.{◌≡◌, length}
use Rattle.asm_model.specs.Said.{AllRead}
use Rattle.source_model.specs.Units.{word_units}
use Rattle.asm_instructions.specs.Lookups.{context_of}
use Rattle.asm_units.specs.Emitting.{all_emitted}
use Rattle.asm_units.proofs.JoinLemmas.{joined}
use Rattle.asm_units.proofs.stored_words.several_words.Given as goal

abbrev pub invariant-operands : goal.invariant-operands
invariant-operands l =
    AllRead l.left
    × (joined (all_emitted l.so_far) (word_units (context_of l.tables.lookup) l.tables.data.now l.left)
    ≡ word_units (context_of l.tables.lookup) l.tables.data.now l.operands)

abbrev pub decreases-operands : goal.decreases-operands
decreases-operands l = length l.left
