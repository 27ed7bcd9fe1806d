use Rattle.link_assign.proofs.index.take_choices.Goals as goal

pub returns-in-Some-clause-left : goal.returns-in-Some-clause-left
returns-in-Some-clause-left c = λ q. c.swap_remove.ensures.updates.0 (record { ref_ptr = (0, 0); now = q })
