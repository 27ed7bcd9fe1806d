use Rattle.arm7_bus.proofs.LookupLemmas.{has_at}
use Rattle.arm7_bus.proofs.memory.Memory.last_takes.Goals as goal

pub returns-clause-has : goal.returns-clause-has
returns-clause-has c e = has_at c.args.self.now.banks.items c.args.self.now.last c.args.a c.args.n (c.is_last.ensures c.if-not-is_last.false)
