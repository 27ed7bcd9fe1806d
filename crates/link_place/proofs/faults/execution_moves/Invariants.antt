use Rattle.std.proofs.Common.{◌≡◌, take, drop, map}
use Rattle.std.specs.List.{AllByRecursion}
use Rattle.link_place.specs.Checks.{move_of_region, IsLow}
use Rattle.link_place.proofs.faults.execution_moves.Given as goal

abbrev pub invariant-loop-laid : goal.invariant-loop-laid
invariant-loop-laid l = record {
  so_far : l.moves.items ≡ map move_of_region (take l.laid-index l.regions);
  low : AllByRecursion IsLow (drop l.laid-index l.regions);
}
