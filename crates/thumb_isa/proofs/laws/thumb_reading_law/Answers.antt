use Rattle.thumb_isa.proofs.ThumbLemmas.{half-lt, instruction-same, width_of-thumb_row}
use Rattle.thumb_isa.proofs.laws.thumb_reading_law.Goals as goal

pub returns-clause-one_instruction : goal.returns-clause-one_instruction
returns-clause-one_instruction c = instruction-same

pub returns-clause-row_width : goal.returns-clause-row_width
returns-clause-row_width c = width_of-thumb_row

pub returns-clause-half_width : goal.returns-clause-half_width
returns-clause-half_width c = half-lt
