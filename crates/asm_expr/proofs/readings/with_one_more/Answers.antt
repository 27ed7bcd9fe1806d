use Rattle.std.proofs.Common.{◌++◌, ◌∷◌, [], ◌∙◌, ap}
use Rattle.std.specs.Prelude.{Ok, Err}
use Rattle.asm_expr.proofs.MadeLemmas.{made}
use Rattle.asm_expr.proofs.readings.with_one_more.Goals as goal

pub returns-in-Err : goal.returns-in-Err
returns-in-Err c = made (λ es e. es ++ e ∷ []) c.args.so_far c.args.reading (Err c.in-Err.kind) c.in-Err.ensures

pub returns : goal.returns
returns c = ap Ok c.in_ok-with_last.ensures ∙ made (λ es e. es ++ e ∷ []) c.args.so_far c.args.reading (Ok c.in-Ok.value) c.in-Ok.ensures
