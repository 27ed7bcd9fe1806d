use Rattle.std.proofs.Common.{refl}
use Rattle.std.specs.Prelude.{if◌then◌else◌}
use Rattle.asm_model.specs.declared.directives.DirectiveLine.TheVariants as line
use Rattle.asm_model.specs.Says.{import_of}
use Rattle.asm_expr.proofs.MadeLemmas.{mapped_ok, mapped_err}
use Rattle.asm_expr.proofs.directives.imported.Goals as goal

pub returns-in-Err : goal.returns-in-Err
returns-in-Err c =
    mapped_err (λ i. if c.args.is_extern then line.Extern i.0 i.1 else line.Import i.0 i.1) (import_of c.args.text.now c.args.tokens.now)
    c.in_ok-value.field-0 c.in-Err.kind c.in_ok-value.ensures c.in-Err.is

pub returns-then-is_extern : goal.returns-then-is_extern
returns-then-is_extern c =
    mapped_ok (λ i. if c.args.is_extern then line.Extern i.0 i.1 else line.Import i.0 i.1) (import_of c.args.text.now c.args.tokens.now)
    c.in_ok-value.field-0 c.in-Ok.value (line.Extern c.in-Ok.value.0 c.in-Ok.value.1) c.in_ok-value.ensures c.in-Ok.is (rw c.if-is_extern.true refl)

pub returns : goal.returns
returns c =
    mapped_ok (λ i. if c.args.is_extern then line.Extern i.0 i.1 else line.Import i.0 i.1) (import_of c.args.text.now c.args.tokens.now)
    c.in_ok-value.field-0 c.in-Ok.value (line.Import c.in-Ok.value.0 c.in-Ok.value.1) c.in_ok-value.ensures c.in-Ok.is (rw c.if-is_extern.false refl)
