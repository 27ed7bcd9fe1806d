use Rattle.std.proofs.Common.{◌≡◌, ◌-◌, ℕ, List, [], length}
use Rattle.chunk_file.specs.Reading.{each}
use Rattle.aof_object.specs.Names.{number_from}
use Rattle.aof_object.specs.Index.{number_in}
use Rattle.aof_object.specs.Objects.{next_head, head_names}
use Rattle.aof_object.proofs.areas.read_rows.Given as goal

abbrev pub invariant-loop-i : goal.invariant-loop-i
invariant-loop-i l = record {
  so_far : each (next_head l.strings l.start l.head) (l.count - l.i) l.heads.items ≡ each (next_head l.strings l.start l.head) l.count [];
  many : length l.heads.items ≡ l.i;
  known : (q : List ℕ) → number_in l.index q ≡ number_from 0 q (head_names l.heads.items);
}
