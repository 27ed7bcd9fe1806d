use Rattle.std.proofs.Common.{ℕ, List, take}
use Rattle.aof_object.specs.Spelling.{gathered, area_names}
use Rattle.aof_object.specs.Places.{IsTable}
use Rattle.aof_object.proofs.table.gather_areas.Given as goal

abbrev pub invariant-loop-area : goal.invariant-loop-area
invariant-loop-area l = (ns : List (List ℕ)) → IsTable l.initial.bytes.items l.initial.places ns → IsTable l.bytes.items l.places (gathered ns (area_names (take l.area-index l.areas)))
