use Rattle.std.proofs.Common.{◌<◌, length, ◌∙◌, ap, arith, get_or}
use Rattle.std.proofs.lemmas.List.{get_or_default}
use Rattle.std.proofs.lemmas.List.Edits.{map_over_more}
use Rattle.std.specs.Prelude.{slice_set}
use Rattle.asm_locals.specs.Naming.{named}
use Rattle.asm_locals.specs.Passes.{found}
use Rattle.asm_locals.proofs.naming.name_exprs.Goals as goal

pub exprs-preserved : goal.exprs-preserved
exprs-preserved c =
    let within : c.exprs.expr-index < length c.args.exprs.now = c.exprs-test.true in
    let inside : c.exprs.expr-index < length c.exprs.exprs = grind arith in
    ap (λ z. slice_set c.exprs.exprs c.exprs.expr-index z) c.in_ok-name_expr.ensures
    ∙ map_over_more (named (found c.args.labels.now)) c.args.exprs.now c.exprs.exprs c.exprs.expr-index
    (get_or c.exprs.exprs c.exprs.expr-index c.expr-item.result) within c.exprs.invariant
    (get_or_default c.exprs.exprs c.exprs.expr-index c.expr-item.result (get_or c.exprs.exprs c.exprs.expr-index c.expr-item.result) inside)
