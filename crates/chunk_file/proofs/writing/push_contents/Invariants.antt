use Rattle.std.proofs.Common.{◌≡◌, ◌++◌, drop, length}
use Rattle.chunk_file.specs.Chunks.{contents, end_from}
use Rattle.chunk_file.proofs.writing.push_contents.Given as goal

abbrev pub invariant-loop-chunk : goal.invariant-loop-chunk
invariant-loop-chunk l = record {
  room : end_from (length l.out.items) (drop l.chunk-index l.list) ≡ end_from (length l.initial.out.items) l.list;
  so_far : l.out.items ++ contents (length l.out.items) (drop l.chunk-index l.list) ≡ l.initial.out.items ++ contents (length l.initial.out.items) l.list;
}
