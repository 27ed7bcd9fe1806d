use Rattle.std.proofs.Common.{is_ok}
use Rattle.arm7_bus.proofs.LookupLemmas.{apart_pushed}
use Rattle.arm7_bus.proofs.WindowLemmas.{data_closed, window_closed}
use Rattle.arm7_bus.proofs.StoreLemmas.{in_pushed}
use Rattle.arm7_bus.proofs.memory.Memory.add_bank.Goals as goal

pub invariant_of-self : goal.invariant_of-self
invariant_of-self c = record {
  apart = apart_pushed c.args.self.now.banks.items c.push.new.self.items c.args.range (is_ok c.push.result) c.args.self.now.apart c.requires c.push.ensures.items;
  fetched = window_closed _ _;
  stored = data_closed _ _;
  in_banks = λ e. in_pushed c.args.self.now.banks.items c.push.new.self.items c.args.range (is_ok c.push.result) _ c.push.ensures.items (c.args.self.now.in_banks e);
}
