use Rattle.arm7_bus.proofs.LookupLemmas.{protected_by}
use Rattle.arm7_bus.proofs.memory.Memory.last_protects.Goals as goal

pub returns : goal.returns
returns c = protected_by c.args.self.now.banks.items c.args.self.now.last c.args._a c.args._n c.index.result.now c.args.self.now.apart c.requires.found c.requires.some c.index.ensures
