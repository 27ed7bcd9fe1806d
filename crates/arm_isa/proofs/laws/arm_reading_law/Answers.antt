use Rattle.arm_isa.proofs.ArmLemmas.{instruction-same, width_of-arm_row, word-lt}
use Rattle.arm_isa.proofs.laws.arm_reading_law.Goals as goal

pub returns-clause-one_instruction : goal.returns-clause-one_instruction
returns-clause-one_instruction c = instruction-same

pub returns-clause-row_width : goal.returns-clause-row_width
returns-clause-row_width c = width_of-arm_row

pub returns-clause-word_width : goal.returns-clause-word_width
returns-clause-word_width c = word-lt
