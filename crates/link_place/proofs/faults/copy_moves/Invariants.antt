use Rattle.std.proofs.Common.{◌≡◌, ◌++◌, drop, map}
use Rattle.std.specs.List.{filter}
use Rattle.link_place.specs.Checks.{move_of_copy}
use Rattle.link_place.specs.Layouts.{is_copied}
use Rattle.link_place.proofs.faults.copy_moves.Given as goal

abbrev pub invariant-loop-laid : goal.invariant-loop-laid
invariant-loop-laid l = l.moves.items ++ map move_of_copy (filter is_copied (drop l.laid-index l.regions)) ≡ map move_of_copy (filter is_copied l.regions)
