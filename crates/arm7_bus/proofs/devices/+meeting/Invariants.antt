use Rattle.std.proofs.Common.{length}
use Rattle.arm7_bus.proofs.devices.+meeting.Given as goal

abbrev pub decreases-meeting : goal.decreases-meeting
decreases-meeting g l = length l.devices.now
