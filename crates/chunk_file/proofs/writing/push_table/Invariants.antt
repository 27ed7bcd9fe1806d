use Rattle.std.proofs.Common.{◌≡◌, ◌++◌, ◌+◌, ◌*◌, drop, length}
use Rattle.std.specs.List.{flat_map}
use Rattle.chunk_file.specs.Chunks.{end_from, row, spans_from}
use Rattle.chunk_file.proofs.writing.push_table.Given as goal

abbrev pub invariant-loop-chunk : goal.invariant-loop-chunk
invariant-loop-chunk l = record {
  room : end_from l.at (drop l.chunk-index l.list) ≡ end_from l.start l.list;
  so_far : l.out.items ++ flat_map row (spans_from l.at (drop l.chunk-index l.list)) ≡ l.initial.out.items ++ flat_map row (spans_from l.start l.list);
  long : length l.out.items ≡ length l.initial.out.items + 16 * l.chunk-index;
}
