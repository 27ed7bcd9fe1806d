use Rattle.std.proofs.Common.{◌≡◌, take, map}
use Rattle.link_place.specs.Checks.{move_of_load}
use Rattle.link_place.proofs.faults.load_moves.Given as goal

abbrev pub invariant-loop-load : goal.invariant-loop-load
invariant-loop-load l = l.moves.items ≡ map move_of_load (take l.load-index l.loads)
