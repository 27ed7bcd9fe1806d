use Rattle.asm_expr.specs.Seeing.{seen_names}
use Rattle.asm_expr.proofs.EvalLemmas.{one_item}
use Rattle.asm_expr.proofs.value.value_of.Goals as goal

pub returns-in-len1 : goal.returns-in-len1
returns-in-len1 c =
    rw (one_item (seen_names c.args.seen.now) c.args.items.now c.item-item.result c.in-len1.len_at_least c.in-len1.len_below c.item-item.is)
    c.value_alone.ensures
