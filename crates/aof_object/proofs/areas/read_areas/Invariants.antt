use Rattle.std.proofs.Common.{◌≡◌, [], length, take, drop}
use Rattle.aof_object.specs.Objects.{each_of, next_area, total}
use Rattle.aof_object.proofs.areas.read_areas.Given as goal

abbrev pub invariant-loop-head : goal.invariant-loop-head
invariant-loop-head l = record {
  so_far : each_of (next_area l.heads l.symbols l.start l.content) (drop l.head-index l.heads) l.areas.items ≡ each_of (next_area l.heads l.symbols l.start l.content) l.heads [];
  many : length l.areas.items ≡ l.head-index;
  place : l.at ≡ total (take l.head-index l.heads);
}
