use Rattle.std.proofs.Common.{◌≡◌, ◌-◌}
use Rattle.arm7_model.specs.Memory.{any_from}
use Rattle.arm7_bus.specs.States.{protected_at}
use Rattle.arm7_bus.proofs.memory.Memory.is_protected.Given as goal

abbrev pub invariant-loop-x : goal.invariant-loop-x
invariant-loop-x l = any_from (protected_at l.self.banks.items) l.x (l.x-end - l.x) ≡ any_from (protected_at l.self.banks.items) l.a l.n
