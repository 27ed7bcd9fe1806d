use Rattle.std.proofs.Common.{◌≡◌}
use Rattle.arm7_bus.specs.Paging.{used_in, memory_in}
use Rattle.arm7_bus.specs.States.{claimed}
use Rattle.arm7_bus.proofs.pages.Pages.use_all.Given as goal

abbrev pub invariant-loop-k : goal.invariant-loop-k
invariant-loop-k l =
    (used_in l.self.table ≡ claimed (used_in l.initial.self.table) l.first l.k)
    × (memory_in l.self.table l.self.frames ≡ memory_in l.initial.self.table l.initial.self.frames)
    × (l.self.room ≡ l.initial.self.room)
