use Rattle.asm_variables.proofs.OperandLemmas.{front_part}
use Rattle.asm_variables.proofs.operands.without_blanks_behind.Goals as goal

pub returns : goal.returns
returns c = rw c.blanks_behind.ensures.run (front_part _ c.args.text.now)
