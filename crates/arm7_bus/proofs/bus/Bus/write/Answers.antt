use Rattle.std.proofs.Common.{refl}
use Rattle.arm7_bus.proofs.bus.Bus.write.Goals as goal

pub returns-then-has-clause-after : goal.returns-then-has-clause-after
returns-then-has-clause-after g c = rw (c.store_in_data_window.ensures.has, c.store_in_data_window.ensures.fault, c.store_in_data_window.ensures.after) refl
