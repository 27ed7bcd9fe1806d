use Rattle.std.proofs.Common.{refl, ◌∙◌}
use Rattle.std.specs.Prelude.{Err}
use Rattle.std.proofs.lemmas.Result.{IfOk-weaker}
use Rattle.sdt_fault.specs.declared.kinds.LineKind.TheVariants.{UnknownWord}
use Rattle.asm_expand.proofs.SayingLemmas.{shows_bad}
use Rattle.asm_expand.proofs.first_lines.read_dollars.Goals as goal

pub returns-in_default-found-clause-says : goal.returns-in_default-found-clause-says
returns-in_default-found-clause-says c =
    λ sources s l ls a r.
    let fails = rw (c.in_default-found.is, c.as_slice.ensures) at c.in-Ok.ensures in
    let failed = fails s (record { globals = r.globals; locals = r.locals; arguments = r.arguments }) in
    (Err UnknownWord, rw failed refl, rw failed (shows_bad sources c.args.state.now c.args.at UnknownWord l ls a))

pub returns-clause-says : goal.returns-clause-says
returns-clause-says c =
    IfOk-weaker c.read_text-said.result _ _
    (λ n h sources s l ls a r.
    let gives = rw (c.in-Some.is, c.as_slice.ensures) at c.in-Ok.ensures in
    let given = gives s (record { globals = r.globals; locals = r.locals; arguments = r.arguments }) in
    let copied = rw c.in-Ok-shared.is at c.from_slice-shared.ensures in
    let said = h sources s l ls a r in
    rw given (rw (copied ∙ c.as_slice-2.ensures.value) at said))
    c.read_text-said.ensures.says
