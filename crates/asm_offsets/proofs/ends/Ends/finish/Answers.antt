use Rattle.asm_offsets.proofs.EndLemmas.{are_laid}
use Rattle.asm_offsets.proofs.ends.Ends.finish.Goals as goal

pub returns-clause-laid : goal.returns-clause-laid
returns-clause-laid c = λ all h. rw c.in_ok-laid.ensures (are_laid c.self.inside.areas.items all (rw (← c.self.view_is) at h))
