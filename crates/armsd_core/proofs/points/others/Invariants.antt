use Rattle.std.proofs.Common.{◌≡◌, ◌≤◌, length, take}
use Rattle.armsd_core.specs.Points.{without}
use Rattle.armsd_core.proofs.points.others.Given as goal

abbrev pub invariant-loop-point : goal.invariant-loop-point
invariant-loop-point l = record {
  kept : l.left.items ≡ without (take l.point-index l.points) l.a;
  few : length l.left.items ≤ l.point-index;
}
