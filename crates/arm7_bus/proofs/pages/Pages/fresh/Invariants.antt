use Rattle.std.proofs.Common.{◌≡◌, ◌+◌, ◌≤◌}
use Rattle.arm7_bus.specs.Paging.{used_in, used_count}
use Rattle.arm7_bus.specs.States.{claimed}
use Rattle.arm7_bus.proofs.pages.Pages.fresh.Given as goal

abbrev pub invariant-loop-k : goal.invariant-loop-k
invariant-loop-k l =
    (l.n + used_count (used_in l.self.table) ≡ used_count (claimed (used_in l.self.table) l.first l.k)) × (l.n ≤ l.k)
