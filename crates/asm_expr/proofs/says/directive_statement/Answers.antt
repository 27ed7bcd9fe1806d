use Rattle.asm_model.specs.Says.{statement_of}
use Rattle.asm_expr.proofs.MadeLemmas.{first_told, second_told, stated_of}
use Rattle.asm_expr.proofs.says.directive_statement.Goals as goal

pub returns-in-Ok-said : goal.returns-in-Ok-said
returns-in-Ok-said c = stated_of c.args.line.now c.args.source c.args.label c.args.said c.in-Ok.label c.in-Ok-said.said c.in-Ok.is c.in-Ok-said.is

pub returns-in-Err-said : goal.returns-in-Err-said
returns-in-Err-said c = λ e. second_told (statement_of c.args.line.now) c.args.label c.args.said c.in-Ok.label c.in-Err-said.kind c.in-Ok.is c.in-Err-said.is

pub returns-in-Err : goal.returns-in-Err
returns-in-Err c = λ e. first_told (statement_of c.args.line.now) c.args.label c.args.said c.in-Err.kind c.told_with.result c.in-Err.is c.told_with.ensures
