use Rattle.asm_model.specs.Kinds.{told_kind}
use Rattle.source_model.specs.Registers.{range_kinds}
use Rattle.asm_registers.proofs.ToldLemmas.{range_next}
use Rattle.asm_registers.proofs.lists.ranges_kind.Goals as goal

pub items-preserved : goal.items-preserved
items-preserved c =
    rw c.first_told-told.ensures
    (range_next c.args.known.now c.items.left.now c.item-item.result c.items.told c.range_kind.result
    (told_kind (range_kinds c.args.known.now c.args.items.now))
    c.items.invariant c.in-len1-up.len_at_least c.item-item.is c.range_kind.ensures)
