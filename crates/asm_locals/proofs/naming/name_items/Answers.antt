use Rattle.std.proofs.Common.{◌<◌, length, ◌∙◌, ap, arith, get_or}
use Rattle.std.proofs.lemmas.List.{get_or_default}
use Rattle.std.proofs.lemmas.List.Edits.{map_over_more}
use Rattle.std.specs.Prelude.{slice_set}
use Rattle.asm_locals.specs.Naming.{named_item}
use Rattle.asm_locals.specs.Passes.{found}
use Rattle.asm_locals.proofs.naming.name_items.Goals as goal

pub items-preserved : goal.items-preserved
items-preserved c =
    let within : c.items.item-index < length c.args.items.now = c.items-test.true in
    let inside : c.items.item-index < length c.items.items = grind arith in
    ap (λ z. slice_set c.items.items c.items.item-index z) c.in_ok-name_item.ensures
    ∙ map_over_more (named_item (found c.args.labels.now)) c.args.items.now c.items.items c.items.item-index
    (get_or c.items.items c.items.item-index c.item-item.result) within c.items.invariant
    (get_or_default c.items.items c.items.item-index c.item-item.result (get_or c.items.items c.items.item-index c.item-item.result) inside)
