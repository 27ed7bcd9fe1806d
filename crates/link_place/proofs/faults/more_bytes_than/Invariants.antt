use Rattle.std.proofs.Common.{◌≡◌, ◌+◌, take}
use Rattle.std.specs.Prelude.{sum_by}
use Rattle.link_place.specs.Layouts.{size_of}
use Rattle.link_place.proofs.faults.more_bytes_than.Given as goal

abbrev pub invariant-loop-laid : goal.invariant-loop-laid
invariant-loop-laid l = l.room + sum_by size_of (take l.laid-index l.regions) ≡ l.limit
