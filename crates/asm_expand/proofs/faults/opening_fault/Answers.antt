use Rattle.std.proofs.Common.{◌∙◌}
use Rattle.asm_model.proofs.SharedLemmas.{told_of_two}
use Rattle.asm_expand.proofs.faults.opening_fault.Goals as goal

pub returns : goal.returns
returns c =
    c.first_told-2.ensures
    ∙ told_of_two _ _ _ _ (c.first_told.ensures ∙ told_of_two _ _ _ _ c.label_fault.ensures c.depth_fault.ensures) c.long_fault.ensures
