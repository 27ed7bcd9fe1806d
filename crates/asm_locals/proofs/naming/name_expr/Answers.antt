use Rattle.std.proofs.Common.{sym}
use Rattle.asm_locals.specs.Passes.{found}
use Rattle.asm_locals.proofs.NamingLemmas.{plain_named}
use Rattle.asm_locals.proofs.naming.name_expr.Goals as goal

pub returns-then-is_plain : goal.returns-then-is_plain
returns-then-is_plain c =
    sym
    (plain_named (found c.args.labels.now) c.args.expr.now c.as_slice.result.now c.as_slice.ensures
    (c.is_plain.ensures (found c.args.labels.now) c.if-is_plain.true))
