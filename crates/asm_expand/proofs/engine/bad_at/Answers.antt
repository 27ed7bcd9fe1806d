use Rattle.asm_expand.proofs.AnswerLemmas.{bad_refusal}
use Rattle.asm_expand.proofs.engine.bad_at.Goals as goal

pub returns-clause-refusal : goal.returns-clause-refusal
returns-clause-refusal c = bad_refusal _ _ _ c.bad_line.result c.bad_line.ensures
