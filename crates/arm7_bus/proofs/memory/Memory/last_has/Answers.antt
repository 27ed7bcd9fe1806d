use Rattle.arm7_bus.proofs.LookupLemmas.{has_at}
use Rattle.arm7_bus.proofs.memory.Memory.last_has.Goals as goal

pub returns : goal.returns
returns c e = has_at c.args.self.now.banks.items c.args.self.now.last c.args.a c.args.n (c.is_last.ensures e)
