use Rattle.std.proofs.Common.{◌∙◌}
use Rattle.asm_expr.specs.Seeing.{seen_names}
use Rattle.asm_expr.proofs.EvalLemmas.{evaluated}
use Rattle.asm_expr.proofs.value.value_seen.Goals as goal

pub returns-in-Ok : goal.returns-in-Ok
returns-in-Ok c ps t d i =
    evaluated (seen_names c.args.seen.now) c.args.e.now.items c.as_slice.result.now c.in_ok-value.field-0 c.as_slice.ensures c.in_ok-value.ensures ps t d i
    ∙ c.in-Ok.is

pub returns-in-Err : goal.returns-in-Err
returns-in-Err c ps t d i =
    evaluated (seen_names c.args.seen.now) c.args.e.now.items c.as_slice.result.now c.in_ok-value.field-0 c.as_slice.ensures c.in_ok-value.ensures ps t d i
    ∙ c.in-Err.is
