use Rattle.std.proofs.Common.{◌≡◌, take}
use Rattle.std.specs.List.{flat_map}
use Rattle.aof_object.specs.Spelling.{content_of}
use Rattle.aof_object.proofs.writing.contents.Given as goal

abbrev pub invariant-loop-area : goal.invariant-loop-area
invariant-loop-area l = l.out.items ≡ flat_map content_of (take l.area-index l.areas)
