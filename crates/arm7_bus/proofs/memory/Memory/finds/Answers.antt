use Rattle.std.proofs.Common.{sym}
use Rattle.arm7_bus.proofs.LookupLemmas.{has_at}
use Rattle.arm7_bus.proofs.memory.Memory.finds.Goals as goal

pub returns-then-is_last-clause-found : goal.returns-then-is_last-clause-found
returns-then-is_last-clause-found c = sym (has_at c.args.self.now.banks.items c.args.self.now.last c.args.a c.args.n (c.is_last.ensures c.if-is_last.true))

pub returns-then-is_last-clause-at : goal.returns-then-is_last-clause-at
returns-then-is_last-clause-at c e = c.is_last.ensures c.if-is_last.true
