use Rattle.std.proofs.Common.{◌≡◌, map, take}
use Rattle.std.specs.Option.{option_map}
use Rattle.chunk_file.specs.Chunks.{chunk_at}
use Rattle.chunk_file.proofs.reading.chunks.Given as goal

abbrev pub invariant-loop-span : goal.invariant-loop-span
invariant-loop-span l = l.list.items ≡ map (option_map (chunk_at l.b)) (take l.span-index l.spans)
