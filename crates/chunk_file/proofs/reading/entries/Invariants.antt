use Rattle.std.proofs.Common.{◌≡◌, ◌-◌, [], length}
use Rattle.chunk_file.specs.Reading.{each}
use Rattle.chunk_file.specs.Chunks.{next_entry}
use Rattle.chunk_file.proofs.reading.entries.Given as goal

abbrev pub invariant-loop-i : goal.invariant-loop-i
invariant-loop-i l = record { so_far : each (next_entry l.b) (l.count - l.i) l.spans.items ≡ each (next_entry l.b) l.count []; many : length l.spans.items ≡ l.i }
