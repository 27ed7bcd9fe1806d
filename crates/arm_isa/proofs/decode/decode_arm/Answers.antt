use Rattle.arm_isa.proofs.ArmLemmas.{only-from_found}
use Rattle.arm_isa.proofs.decode.decode_arm.Goals as goal

pub returns-clause-only : goal.returns-clause-only
returns-clause-only c = only-from_found c.instruction_of.result c.args.w c.instruction_of.ensures
