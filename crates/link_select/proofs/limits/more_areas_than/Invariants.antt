use Rattle.std.proofs.Common.{◌≡◌, ◌+◌, take}
use Rattle.link_select.specs.Selection.{count_areas}
use Rattle.link_select.proofs.limits.more_areas_than.Given as goal

abbrev pub invariant-loop-object : goal.invariant-loop-object
invariant-loop-object l = l.room + count_areas (take l.object-index l.objects) ≡ l.limit
