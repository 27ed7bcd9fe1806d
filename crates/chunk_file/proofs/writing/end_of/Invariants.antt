use Rattle.std.proofs.Common.{◌≡◌, drop, ◌<◌, ◌^◌}
use Rattle.chunk_file.specs.Chunks.{end_from}
use Rattle.chunk_file.proofs.writing.end_of.Given as goal

abbrev pub invariant-loop-chunk : goal.invariant-loop-chunk
invariant-loop-chunk l = (end_from l.end (drop l.chunk-index l.list) ≡ end_from l.start l.list) × (l.end < 2 ^ 32)
