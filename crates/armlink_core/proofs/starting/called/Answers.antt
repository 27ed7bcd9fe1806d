use Rattle.armlink_core.proofs.starting.called.Goals as goal

pub returns-then-linked : goal.returns-then-linked
returns-then-linked c = rw c.if-linked.true (rw c.as_slice.ensures at c.veneer_to.ensures)
