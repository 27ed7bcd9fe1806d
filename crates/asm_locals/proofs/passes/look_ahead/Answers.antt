use Rattle.std.proofs.Common.{◌≡◌, ◌-◌, suc, get_or, refl, arith, subst}
use Rattle.asm_locals.proofs.PassLemmas.{ahead_goes, Ahead}
use Rattle.asm_locals.proofs.passes.look_ahead.Goals as goal

pub statements-preserved : goal.statements-preserved
statements-preserved c =
    let more : c.statements.left ≡ suc (c.statements.left - 1) = omega arith in (
      c.name_ahead.ensures.way,
      ahead_goes c.args.statements.now c.statements.statements (c.statements.left - 1)
          (get_or c.statements.statements (c.statements.left - 1) c.index-statements-left.result) c.index-statements-left.result c.name_ahead.new.statement
          c.statements.labels.table.items c.name_ahead.new.labels.table.items
          (subst (λ n. Ahead c.args.statements.now c.statements.statements n c.statements.labels.table.items) more c.statements.invariant.1)
          refl c.in_ok-name_ahead.ensures.named,
    )
