use Rattle.arm7_bus.proofs.PagingLemmas.{claim-memory, claim-paging}
use Rattle.arm7_bus.proofs.pages.Pages.claim.Goals as goal

pub invariant_of-self : goal.invariant_of-self
invariant_of-self c = record {
  paging = rw c.set.ensures (claim-paging c.args.self.now.table c.args.self.now.frames c.args.self.now.used c.args.self.now.room c.args.page c.args.self.now.paging c.requires.page c.requires.fresh c.requires.left);
}

pub returns-clause-memory : goal.returns-clause-memory
returns-clause-memory c =
    rw c.set.ensures (claim-memory c.args.self.now.table c.args.self.now.frames c.args.self.now.used c.args.self.now.room c.args.page c.args.self.now.paging c.requires.page c.requires.fresh)
