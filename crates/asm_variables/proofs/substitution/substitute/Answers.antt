use Rattle.asm_variables.proofs.substitution.substitute.Goals as goal

pub returns : goal.returns
returns c = λ s has. rw c.in_ok-from_slice.ensures.items (c.has_dollar.ensures.stays c.if-has_dollar.false s)
