use Rattle.std.proofs.Common.{arith, refl}
use Rattle.sdt_outside.proofs.store.memory.MemoryStoreStore.write.Goals as goal

pub returns-then-failing-clause-failed : goal.returns-then-failing-clause-failed
returns-then-failing-clause-failed c = (omega arith, (_, refl, λ _ _. refl))
