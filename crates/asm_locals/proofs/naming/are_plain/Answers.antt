use Rattle.asm_locals.proofs.NamingLemmas.{one_plain, plain_named}
use Rattle.asm_locals.proofs.naming.are_plain.Goals as goal

pub returns-in-len1 : goal.returns-in-len1
returns-in-len1 c t h =
    one_plain t c.args.exprs.now c.expr-item.result c.in-len1.len_at_least c.in-len1.len_below c.expr-item.is
    (plain_named t c.expr-item.result c.as_slice.result.now c.as_slice.ensures (c.is_plain.ensures t h))
