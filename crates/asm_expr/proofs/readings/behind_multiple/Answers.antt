use Rattle.std.specs.Prelude.{Ok, Err}
use Rattle.asm_model.specs.declared.directives.Boundary.TheVariants as limit
use Rattle.asm_model.specs.declared.directives.DirectiveLine.TheVariants as line
use Rattle.asm_expr.proofs.MadeLemmas.{made}
use Rattle.asm_expr.proofs.readings.behind_multiple.Goals as goal

pub returns-in-Ok : goal.returns-in-Ok
returns-in-Ok c =
    made (λ m o. line.Align (limit.Behind m o)) c.args.multiple c.args.offset (Ok (c.in-Ok.multiple, c.in-Ok.offset)) c.in-Ok.ensures

pub returns-in-Err : goal.returns-in-Err
returns-in-Err c = made (λ m o. line.Align (limit.Behind m o)) c.args.multiple c.args.offset (Err c.in-Err.kind) c.in-Err.ensures
