use Rattle.std.proofs.Common.{◌≡◌, ◌++◌, drop}
use Rattle.link_select.specs.Places.{places_from}
use Rattle.link_select.proofs.members.places_of.Given as goal

abbrev pub invariant-loop-i : goal.invariant-loop-i
invariant-loop-i l = l.places.items ++ places_from l.i (drop l.i l.archives) ≡ places_from 0 l.archives
