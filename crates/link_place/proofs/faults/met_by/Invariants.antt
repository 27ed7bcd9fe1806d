use Rattle.std.proofs.Common.{◌≡◌, drop, map}
use Rattle.place_model.specs.Faults.{met_by}
use Rattle.link_place.specs.Checks.{span_of, move_of}
use Rattle.link_place.proofs.faults.met_by.Given as goal

abbrev pub invariant-loop-other : goal.invariant-loop-other
invariant-loop-other l = met_by (span_of l.name l.written) (map move_of (drop l.other-index l.moves)) ≡ met_by (span_of l.name l.written) (map move_of l.moves)
