use Rattle.std.proofs.Common.{refl}
use Rattle.std.specs.Prelude.{if◌then◌else◌}
use Rattle.asm_model.specs.declared.directives.DirectiveLine.TheVariants as line
use Rattle.asm_model.specs.Says.{name_alone}
use Rattle.asm_expr.proofs.MadeLemmas.{mapped_ok, mapped_err}
use Rattle.asm_expr.proofs.directives.named.Goals as goal

pub returns-in-Err : goal.returns-in-Err
returns-in-Err c =
    mapped_err (λ n. if c.args.keeps then line.Keep n else line.Export n) (name_alone c.args.text.now c.args.tokens.now) c.in_ok-value.field-0 c.in-Err.kind
    c.in_ok-value.ensures c.in-Err.is

pub returns-then-keeps : goal.returns-then-keeps
returns-then-keeps c =
    mapped_ok (λ n. if c.args.keeps then line.Keep n else line.Export n) (name_alone c.args.text.now c.args.tokens.now) c.in_ok-value.field-0 c.in-Ok.value
    (line.Keep c.in-Ok.value) c.in_ok-value.ensures c.in-Ok.is (rw c.if-keeps.true refl)

pub returns : goal.returns
returns c =
    mapped_ok (λ n. if c.args.keeps then line.Keep n else line.Export n) (name_alone c.args.text.now c.args.tokens.now) c.in_ok-value.field-0 c.in-Ok.value
    (line.Export c.in-Ok.value) c.in_ok-value.ensures c.in-Ok.is (rw c.if-keeps.false refl)
