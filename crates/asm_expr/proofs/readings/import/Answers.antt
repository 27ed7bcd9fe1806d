use Rattle.std.proofs.Common.{◌≡◌, subst}
use Rattle.std.specs.Prelude.{IfOk}
use Rattle.asm_model.specs.Says.{import_of}
use Rattle.asm_expr.proofs.ReadingLemmas.{first_and_rest, no_import}
use Rattle.asm_expr.proofs.readings.import.Goals as goal

pub returns-in-empty : goal.returns-in-empty
returns-in-empty c = no_import c.args.text.now c.args.tokens.now c.in-empty.len_below

pub returns-in-len1-up : goal.returns-in-len1-up
returns-in-len1-up c =
    subst (λ ts. IfOk c.name_and_mark.result (λ i. i ≡ import_of c.args.text.now ts)) (first_and_rest c.args.tokens.now _ c.in-len1-up.len_at_least)
    c.name_and_mark.ensures
