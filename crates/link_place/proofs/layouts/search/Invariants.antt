use Rattle.std.proofs.Common.{◌≡◌, ◌-◌}
use Rattle.place_model.specs.Plans.{first_from}
use Rattle.link_place.specs.Layouts.{passes}
use Rattle.link_place.proofs.layouts.search.Given as goal

abbrev pub invariant-loop-words : goal.invariant-loop-words
invariant-loop-words l = first_from (passes l.origin l.groups l.parts) l.words (l.most - l.words) ≡ first_from (passes l.origin l.groups l.parts) 0 l.most
