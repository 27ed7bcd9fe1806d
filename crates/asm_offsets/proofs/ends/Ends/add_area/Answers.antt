use Rattle.asm_offsets.proofs.EndLemmas.{area_more}
use Rattle.asm_offsets.proofs.ends.Ends.add_area.Goals as goal

pub returns-clause-behind : goal.returns-clause-behind
returns-clause-behind c = λ before h. rw (c.in_ok-push.ensures.items, c.new.ensures) (area_more c.self.inside.areas.items before (rw (← c.self.view_is) at h))
