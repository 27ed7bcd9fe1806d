use Rattle.std.proofs.Common.{◌≡◌, ◌++◌, take}
use Rattle.std.specs.List.{flat_map}
use Rattle.aof_object.specs.Spelling.{reloc_row}
use Rattle.aof_object.proofs.writing.push_relocs.Given as goal

abbrev pub invariant-loop-reloc : goal.invariant-loop-reloc
invariant-loop-reloc l = l.out.items ≡ l.initial.out.items ++ flat_map reloc_row (take l.reloc-index l.relocs)
