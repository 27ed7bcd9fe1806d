use Rattle.std.proofs.Common.{◌++◌, ◌∙◌, ap}
use Rattle.std.specs.Prelude.{Ok, Err}
use Rattle.asm_model.specs.Areas.{listed}
use Rattle.asm_expr.proofs.MadeLemmas.{made}
use Rattle.asm_expr.proofs.areas.with_alignment.Goals as goal

pub returns-in-Err : goal.returns-in-Err
returns-in-Err c = made (λ es e. es ++ listed e) c.args.alignments c.args.reading (Err c.in-Err.kind) c.in-Err.ensures

pub returns : goal.returns
returns c = ap Ok c.in_ok-with_listed.ensures ∙ made (λ es e. es ++ listed e) c.args.alignments c.args.reading (Ok c.in-Ok.value) c.in-Ok.ensures
