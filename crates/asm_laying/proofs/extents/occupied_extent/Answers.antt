use Rattle.asm_expr.specs.Seeing.{seen_names}
use Rattle.asm_laying.proofs.TakenLemmas.{items_taken}
use Rattle.asm_laying.proofs.extents.occupied_extent.Goals as goal

pub held_extent-requires : goal.held_extent-requires
held_extent-requires c = rw c.in-Items.is at c.requires

pub returns-in-Items : goal.returns-in-Items
returns-in-Items c =
    rw c.in-Items.is
    (items_taken (seen_names c.args.seen.now) c.in-Items.item c.in-Items.values.now c.item_alignment.result c.held_by.result c.held_extent.result
    c.item_alignment.ensures c.held_by.ensures c.held_extent.ensures)
