use Rattle.std.proofs.Common.{length, refl}
use Rattle.asm_layout.proofs.FrontLemmas.{all_walked}
use Rattle.asm_layout.proofs.walking.walked.Goals as goal

pub returns : goal.returns
returns c = all_walked c.args.statements.now (length c.args.statements.now) c.walked_front.result refl c.walked_front.ensures
