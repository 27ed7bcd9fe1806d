use Rattle.std.proofs.Common.{◌∙◌}
use Rattle.asm_variables.specs.Known.{entries_in}
use Rattle.asm_variables.proofs.ValueLemmas.{told_more}
use Rattle.asm_variables.proofs.values.items_fault.Goals as goal

pub items-preserved : goal.items-preserved
items-preserved c =
    λ s r.
    told_more (entries_in c.args.visible s) c.items.told c.fault_of.result c.first_told-told.result c.is_asked.result c.items.left.now c.in-Some.behind.now
    c.in-Some.item.now
    c.in-Some.ensures.cases.0 c.is_asked.ensures (c.fault_of.ensures s r) c.first_told-told.ensures
    ∙ c.items.invariant s r
