use Rattle.std.proofs.Common.{◌≡◌, ◌++◌, replicate}
use Rattle.arm7_bus.proofs.block.Cells.add_zeros.Given as goal

abbrev pub invariant-loop-k : goal.invariant-loop-k
invariant-loop-k l = (l.self.bytes ≡ l.initial.self.bytes ++ replicate l.k 0) × (l.self.at ≡ l.initial.self.at) × (l.self.room ≡ l.initial.self.room)
