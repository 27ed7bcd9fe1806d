use Rattle.asm_expr.proofs.readings.name_and_mark.Goals as goal

pub returns : goal.returns
returns c = rw (c.in_ok-name.ensures, c.import_mark.ensures) at c.both.ensures
