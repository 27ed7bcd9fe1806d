use Rattle.big_lines.proofs.WholeLemmas as lemmas
use Rattle.big_lines.proofs.big_is_read.Goals as goal

pub returns : goal.returns
returns c = lemmas.big_is_read c.one_reading.ensures.line
