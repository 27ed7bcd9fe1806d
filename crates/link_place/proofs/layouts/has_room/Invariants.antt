use Rattle.std.proofs.Common.{◌≡◌, ◌+◌, take}
use Rattle.std.specs.Prelude.{sum_by}
use Rattle.link_place.specs.Layouts.{row_words}
use Rattle.link_place.proofs.layouts.has_room.Given as goal

abbrev pub invariant-loop-laid : goal.invariant-loop-laid
invariant-loop-laid l = l.room + (sum_by row_words (take l.laid-index l.regions) + 6) ≡ l.words
