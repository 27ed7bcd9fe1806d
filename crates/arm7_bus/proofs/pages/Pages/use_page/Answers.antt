use Rattle.arm7_bus.proofs.PagingLemmas.{used_claim}
use Rattle.arm7_bus.proofs.pages.Pages.use_page.Goals as goal

pub returns-clause-used : goal.returns-clause-used
returns-clause-used c = rw c.claim.ensures.table (used_claim c.args.self.now.table c.args.page c.args.self.now.used)
