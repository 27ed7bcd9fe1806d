use Rattle.std.proofs.Common.{◌≡◌, ◌++◌, ℕ, List, take}
use Rattle.std.specs.List.{flat_map}
use Rattle.aof_object.specs.Spelling.{area_row}
use Rattle.aof_object.specs.Places.{Tells}
use Rattle.aof_object.proofs.writing.push_areas.Given as goal

abbrev pub invariant-loop-area : goal.invariant-loop-area
invariant-loop-area l = (ns : List (List ℕ)) → Tells l.places ns → l.out.items ≡ l.initial.out.items ++ flat_map (area_row ns) (take l.area-index l.areas)
