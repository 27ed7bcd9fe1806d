use Rattle.std.proofs.Common.{add-one, refl, get_or, ◌<◌, length, arith}
use Rattle.asm_locals.proofs.PassLemmas.{back_goes}
use Rattle.asm_locals.proofs.passes.look_back.Goals as goal

pub statements-preserved : goal.statements-preserved
statements-preserved c =
    let within : c.statements.at < length c.statements.statements = omega arith in (
      c.name_back.ensures.way,
      rw add-one (back_goes c.args.statements.now c.statements.statements c.statements.at
          (get_or c.statements.statements c.statements.at c.index-statements-at.result) c.index-statements-at.result c.name_back.new.statement
          c.statements.labels.table.items c.name_back.new.labels.table.items c.statements.invariant.1 within refl c.in_ok-name_back.ensures.named),
    )
