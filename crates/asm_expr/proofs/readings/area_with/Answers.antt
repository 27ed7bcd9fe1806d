use Rattle.std.specs.Prelude.{Ok, Err}
use Rattle.asm_model.specs.declared.directives.DirectiveLine.TheVariants as line
use Rattle.asm_expr.proofs.MadeLemmas.{made}
use Rattle.asm_expr.proofs.readings.area_with.Goals as goal

pub returns-in-Ok : goal.returns-in-Ok
returns-in-Ok c = made (λ n a. line.Area n a) c.args.name c.args.attributes (Ok (c.in-Ok.name, c.in-Ok.attributes)) c.in-Ok.ensures

pub returns-in-Err : goal.returns-in-Err
returns-in-Err c = made (λ n a. line.Area n a) c.args.name c.args.attributes (Err c.in-Err.kind) c.in-Err.ensures
