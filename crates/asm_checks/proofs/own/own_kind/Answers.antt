use Rattle.std.proofs.Common.{◌∙◌}
use Rattle.asm_model.proofs.SharedLemmas.{told_of_two}
use Rattle.asm_checks.proofs.own.own_kind.Goals as goal

pub returns : goal.returns
returns c =
    c.first_told-2.ensures
    ∙ told_of_two _ _ _ _
    (c.first_told.ensures
    ∙ told_of_two _ _ _ _ (rw (c.has_bad_word.ensures) at c.kind_if-word.ensures) (rw (c.has_large.ensures) at c.kind_if-large.ensures))
    c.kind_if-long.ensures
