use Rattle.std.proofs.Common.{refl, sym, ◌∙◌}
use Rattle.asm_registers.proofs.NameLemmas.{kept}
use Rattle.asm_registers.proofs.giving.note.Goals as goal

pub returns-in-Ok-Some : goal.returns-in-Ok-Some
returns-in-Ok-Some c = λ q.
    kept q c.args.name.now c.args.known.now c.args.register c.in-Ok-Some.field-0-0 c.in-Ok-Some.field-0-1 c.in-Ok-Some.is-0
    (sym c.register_in.ensures ∙ c.in-Ok-Some.is-1)

pub returns-in_ok-add-in-Ok-None : goal.returns-in_ok-add-in-Ok-None
returns-in_ok-add-in-Ok-None c = λ q. rw (c.in-Ok-None.is-0, c.in_ok-add-in-Ok-None.ensures.more) refl
