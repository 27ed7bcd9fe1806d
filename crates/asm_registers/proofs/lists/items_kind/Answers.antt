use Rattle.source_model.specs.Registers.{list_registers}
use Rattle.asm_registers.specs.Scoped.{told_of}
use Rattle.asm_registers.proofs.ToldLemmas.{item_next}
use Rattle.asm_registers.proofs.lists.items_kind.Goals as goal

pub items-preserved : goal.items-preserved
items-preserved c =
    rw c.first_told-told.ensures
    (item_next c.args.scope.now c.items.left.now c.item-item.result c.items.told c.item_kind.result (told_of c.args.scope.now (list_registers c.args.items.now))
    c.items.invariant c.in-len1-up.len_at_least c.item-item.is c.item_kind.ensures)
