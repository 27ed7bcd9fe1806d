use Rattle.asm_model.specs.Says.{statement}
use Rattle.asm_expr.proofs.MadeLemmas.{first_told, second_told, stated}
use Rattle.asm_expr.proofs.says.statement.Goals as goal

pub returns-in-Ok-what : goal.returns-in-Ok-what
returns-in-Ok-what c = stated c.args.line.now c.args.source c.args.label c.args.what c.in-Ok.label c.in-Ok-what.what c.in-Ok.is c.in-Ok-what.is

pub returns-in-Err-what : goal.returns-in-Err-what
returns-in-Err-what c = λ e. second_told (statement c.args.line.now) c.args.label c.args.what c.in-Ok.label c.in-Err-what.kind c.in-Ok.is c.in-Err-what.is

pub returns-in-Err : goal.returns-in-Err
returns-in-Err c = λ e. first_told (statement c.args.line.now) c.args.label c.args.what c.in-Err.kind c.told_with.result c.in-Err.is c.told_with.ensures
