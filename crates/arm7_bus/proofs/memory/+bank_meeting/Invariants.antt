use Rattle.std.proofs.Common.{length}
use Rattle.arm7_bus.proofs.memory.+bank_meeting.Given as goal

abbrev pub decreases-bank_meeting : goal.decreases-bank_meeting
decreases-bank_meeting l = length l.banks.now
