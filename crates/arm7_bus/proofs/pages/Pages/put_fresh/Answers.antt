use Rattle.arm7_bus.proofs.PagingLemmas.{used_claim}
use Rattle.arm7_bus.proofs.pages.Pages.put_fresh.Goals as goal

pub returns-clause-used : goal.returns-clause-used
returns-clause-used c = λ _. rw c.put_from.ensures.table (rw c.claim.ensures.table (used_claim _ _ _))
