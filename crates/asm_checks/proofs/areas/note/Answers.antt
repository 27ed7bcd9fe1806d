use Rattle.std.proofs.Common.{sym, ◌∙◌}
use Rattle.asm_checks.proofs.AreaLemmas.{unknown, known, put_new}
use Rattle.asm_checks.proofs.areas.note.Goals as goal

pub returns-in-Err-default : goal.returns-in-Err-default
returns-in-Err-default c = unknown c.args.areas.now c.args.name.now c.args.attributes.now c.args.exponent c.in-Err-default.field-0-0 c.in-Err-default.is-0

pub returns-in-Ok-Some : goal.returns-in-Ok-Some
returns-in-Ok-Some c =
    known c.args.areas.now c.args.name.now c.args.attributes.now c.args.exponent c.in-Ok-Some.field-0-0 c.in-Ok-Some.field-0-1 c.in-Ok-Some.is-0
    (sym c.marks_in.ensures ∙ c.in-Ok-Some.is-1)

pub returns-in_ok-add-in-Ok-None : goal.returns-in_ok-add-in-Ok-None
returns-in_ok-add-in-Ok-None c =
    put_new c.args.areas.now c.add.new.self c.args.name.now c.args.attributes.now c.args.exponent c.in-Ok-None.exponent c.in-Ok-None.is-0
    (sym c.marks_in.ensures ∙ c.in-Ok-None.is-1)
    (rw (c.marks_of.ensures) at c.in_ok-add-in-Ok-None.ensures.found)
