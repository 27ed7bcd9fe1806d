use Rattle.sdt_listing.proofs.ArmReadings.{decoded}
use Rattle.sdt_listing.proofs.arm.instruction_of.Goals as goal

pub returns-clause-value : goal.returns-clause-value
returns-clause-value c = decoded c.args.w c.decode_arm.result c.decode_arm.ensures.found c.decode_arm.ensures.only
