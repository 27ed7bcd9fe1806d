use Rattle.std.proofs.Common.{◌≡◌, ◌-◌, [], length}
use Rattle.chunk_file.specs.Reading.{each}
use Rattle.aof_object.specs.Objects.{next_reloc}
use Rattle.aof_object.proofs.areas.read_relocs.Given as goal

abbrev pub invariant-loop-i : goal.invariant-loop-i
invariant-loop-i l = record {
  so_far : each (next_reloc l.areas l.symbols l.start l.content l.at) (l.count - l.i) l.relocs.items ≡ each (next_reloc l.areas l.symbols l.start l.content l.at) l.count [];
  many : length l.relocs.items ≡ l.i;
}
