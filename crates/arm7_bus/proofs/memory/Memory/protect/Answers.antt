use Rattle.std.proofs.Common.{arith}
use Rattle.arm7_bus.proofs.LookupLemmas.{apart_protected}
use Rattle.arm7_bus.proofs.WindowLemmas.{data_closed, window_closed}
use Rattle.arm7_bus.proofs.StoreLemmas.{in_protected}
use Rattle.arm7_bus.proofs.memory.Memory.protect.Goals as goal

pub invariant_of-self : goal.invariant_of-self
invariant_of-self c = record {
  apart = apart_protected c.args.r c.args.self.now.banks.items c.protect_banks.new.banks c.args.self.now.banks.len c.args.self.now.apart (rw c.deref_mut.ensures.value at c.protect_banks.ensures) (omega arith);
  fetched = window_closed _ _;
  stored = data_closed _ _;
  in_banks = λ e. in_protected c.args.r c.args.self.now.banks.items c.protect_banks.new.banks c.args.self.now.banks.len _ (rw c.deref_mut.ensures.value at c.protect_banks.ensures) (omega arith) (c.args.self.now.in_banks e);
}
