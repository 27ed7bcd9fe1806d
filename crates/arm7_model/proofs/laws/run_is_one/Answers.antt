use Rattle.arm7_model.proofs.StepLaws.{run-one}
use Rattle.arm7_model.proofs.laws.run_is_one.Goals as goal

pub returns : goal.returns
returns c = run-one c.arm_reading_law.ensures.one_instruction c.thumb_reading_law.ensures.one_instruction
