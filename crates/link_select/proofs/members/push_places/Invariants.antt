use Rattle.std.proofs.Common.{◌≡◌, ◌++◌, drop}
use Rattle.link_select.specs.Places.{places_in}
use Rattle.link_select.proofs.members.push_places.Given as goal

abbrev pub invariant-loop-member : goal.invariant-loop-member
invariant-loop-member l = l.places.items ++ places_in l.archive l.member (drop l.member l.fn.members) ≡ l.initial.places.items ++ places_in l.archive 0 l.fn.members
