use Rattle.std.proofs.Common.{append-nil, ◌∙◌}
use Rattle.asm_expr.proofs.evaluating.evaluate.Goals as goal

pub returns : goal.returns
returns c =
    let whole = rw append-nil at (rw append-nil at c.value_seen.ensures) in
    rw (c.in_ok-known.ensures ∙ c.as_slice.ensures) at whole
