use Rattle.std.proofs.Common.{sym}
use Rattle.arm7_bus.proofs.LookupLemmas.{has_at}
use Rattle.arm7_bus.proofs.memory.Memory.holds.Goals as goal

pub returns-then-is_last : goal.returns-then-is_last
returns-then-is_last c = sym (has_at c.args.self.now.banks.items c.args.self.now.last c.args.a c.args.n (c.is_last.ensures c.if-is_last.true))
