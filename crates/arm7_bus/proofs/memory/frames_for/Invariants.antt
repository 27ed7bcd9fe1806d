use Rattle.std.proofs.Common.{◌≡◌, ◌≤◌, ◌-◌}
use Rattle.arm7_bus.specs.Touches.{pages_touched}
use Rattle.arm7_bus.proofs.memory.frames_for.Given as goal

abbrev pub invariant-pages : goal.invariant-pages
invariant-pages l = (l.n ≡ pages_touched l.banks l.page) × (l.n ≤ l.page) × (l.page ≤ 1048576)

abbrev pub decreases-pages : goal.decreases-pages
decreases-pages l = 1048576 - l.page
