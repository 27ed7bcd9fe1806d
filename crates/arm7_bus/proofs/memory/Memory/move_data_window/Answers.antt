use Rattle.std.proofs.Common.{refl, sym, ◌∙◌}
use Rattle.arm7_bus.proofs.WindowLemmas.{data_moved}
use Rattle.arm7_bus.proofs.memory.Memory.move_data_window.Goals as goal

pub invariant_of-self : goal.invariant_of-self
invariant_of-self c = record {
  apart = c.args.self.now.apart;
  fetched = c.args.self.now.fetched;
  stored = data_moved _ _ _ _ _ c.args.a c.in-Some.ensures.window c.in-Some.ensures.page refl (sym c.last_protects.ensures ∙ c.if-last_protects.false);
  in_banks = c.args.self.now.in_banks;
}
