use Rattle.std.proofs.Common.{map, refl}
use Rattle.asm_model.specs.Directives.{row_of}
use Rattle.asm_expr.proofs.RowLemmas.{row_step, row_found, row_missing}
use Rattle.asm_expr.proofs.rows.row_of.Goals as goal

pub loop-row-init : goal.loop-row-init
loop-row-init g c = refl

pub returns-then-is_name : goal.returns-then-is_name
returns-then-is_name g c =
    row_found (λ row. (row.0.now, row.1)) c.args.word.now c.args.rows.now c.loop-row.row-index c.row-item.result c.is_name.result
    (row_of c.args.word.now (map (λ row. (row.0.now, row.1)) c.args.rows.now)) c.loop-row-test.true c.row-item.is c.is_name.ensures c.if-is_name.true
    c.loop-row.invariant

pub loop-row-preserved : goal.loop-row-preserved
loop-row-preserved g c =
    row_step (λ row. (row.0.now, row.1)) c.args.word.now c.args.rows.now c.loop-row.row-index c.row-item.result c.is_name.result
    (row_of c.args.word.now (map (λ row. (row.0.now, row.1)) c.args.rows.now)) c.loop-row-test.true c.row-item.is c.is_name.ensures c.if-is_name.false
    c.loop-row.invariant

pub returns : goal.returns
returns g c =
    row_missing (λ row. (row.0.now, row.1)) c.args.word.now c.args.rows.now c.loop-row.row-index
    (row_of c.args.word.now (map (λ row. (row.0.now, row.1)) c.args.rows.now)) c.loop-row-test.false c.loop-row.invariant
