use Rattle.arm7_bus.proofs.memory.Memory.meeting.Goals as goal

pub returns : goal.returns
returns c = rw c.deref.ensures.value at c.bank_meeting.ensures
