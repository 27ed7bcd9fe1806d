use Rattle.std.proofs.Common.{◌≡◌, take}
use Rattle.aof_object.proofs.copies.copy_areas.Given as goal

abbrev pub invariant-loop-area : goal.invariant-loop-area
invariant-loop-area l = l.copy.items ≡ take l.area-index l.areas
