use Rattle.sdt_listing.proofs.ArmReadings.{arm_is}
use Rattle.sdt_listing.proofs.ThumbReadings.{thumb_is}
use Rattle.sdt_listing.proofs.laws.readings_law.Goals as goal

pub returns-clause-arm : goal.returns-clause-arm
returns-clause-arm c = arm_is

pub returns-clause-thumb : goal.returns-clause-thumb
returns-clause-thumb c = thumb_is
