use Rattle.std.proofs.Common.{ap, ◌∙◌}
use Rattle.sdt_fault.specs.declared.kinds.LineKind.TheVariants.{BadOperand, TooMany}
use Rattle.asm_model.specs.Kinds.{told_kind, kind_if}
use Rattle.asm_checks.proofs.LateLemmas.{late_is}
use Rattle.asm_checks.proofs.late.late_kind.Goals as goal

pub returns-in-Some : goal.returns-in-Some
returns-in-Some c = λ all before rest l h i.
    c.first_told.ensures
    ∙ late_is c.literals_are_placed.ensures all before rest l c.args.what.now c.args.position c.args.pools.now c.in-Some.area c.kind_if.result
    c.kind_if-in-Some.result
    (c.kind_if.ensures ∙ ap (λ b. told_kind (kind_if b BadOperand)) c.is_wrong_entry-entry.ensures)
    (c.kind_if-in-Some.ensures ∙ ap (λ b. told_kind (kind_if b TooMany)) c.is_far-far.ensures) h i c.in-Some.is
