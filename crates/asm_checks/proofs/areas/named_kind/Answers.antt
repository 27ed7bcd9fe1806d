use Rattle.std.proofs.Common.{◌∙◌}
use Rattle.asm_checks.proofs.areas.named_kind.Goals as goal
use Rattle.asm_model.proofs.SharedLemmas.{told_of_two}

pub returns-clause-told : goal.returns-clause-told
returns-clause-told c =
    c.first_told.ensures ∙ told_of_two _ _ _ _ c.exponent_kind.ensures (rw (c.is_otherwise-otherwise.ensures, c.marks_in.ensures) at c.kind_if.ensures)
