use Rattle.asm_model.proofs.WordLemmas.{called}
use Rattle.asm_model.proofs.word_case.is_called.Goals as goal

pub returns : goal.returns
returns c = called c.args.name.now c.args.word.now c.eq_ignore_ascii_case.result c.eq_ignore_ascii_case.ensures.test
