use Rattle.arm7_model.proofs.StepLaws.{step-one}
use Rattle.arm7_model.proofs.laws.step_is_one.Goals as goal

pub returns : goal.returns
returns c = step-one c.arm_reading_law.ensures.one_instruction c.thumb_reading_law.ensures.one_instruction
