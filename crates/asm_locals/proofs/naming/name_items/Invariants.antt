use Rattle.std.proofs.Common.{◌≡◌, ◌++◌, map, take, drop}
use Rattle.asm_locals.specs.Naming as naming
use Rattle.asm_locals.specs.Passes.{found}
use Rattle.asm_locals.proofs.naming.name_items.Given as goal

abbrev pub invariant-items : goal.invariant-items
invariant-items l =
    l.items ≡ map (naming.named_item (found l.labels)) (take l.item-index l.fn.items) ++ drop l.item-index l.fn.items
