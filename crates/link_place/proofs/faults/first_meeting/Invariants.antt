use Rattle.std.proofs.Common.{◌≡◌, ◌+◌, ◌^◌, ◌≤◌, drop, map}
use Rattle.std.specs.List.{AllByRecursion}
use Rattle.place_model.specs.Faults.{first_meeting}
use Rattle.link_place.specs.Checks.{move_of}
use Rattle.link_place.proofs.faults.first_meeting.Given as goal

abbrev pub invariant-loop-i : goal.invariant-loop-i
invariant-loop-i l = record {
  so_far : first_meeting (map move_of (drop l.i l.moves)) ≡ first_meeting (map move_of l.moves);
  low : AllByRecursion (λ m. m.written.base + m.written.size ≤ 2 ^ 32) (drop l.i l.moves);
}
