use Rattle.std.proofs.Common.{◌≡◌, ◌-◌, ℕ, List, [], length}
use Rattle.std.specs.Prelude.{is_some}
use Rattle.chunk_file.specs.Reading.{each}
use Rattle.aof_object.specs.Names.{among}
use Rattle.aof_object.specs.Index.{number_in}
use Rattle.aof_object.specs.Objects.{next_symbol, exported}
use Rattle.aof_object.proofs.symbols.read_rows.Given as goal

abbrev pub invariant-loop-i : goal.invariant-loop-i
invariant-loop-i l = record {
  so_far : each (next_symbol l.strings l.heads l.start l.content) (l.count - l.i) l.symbols.items ≡ each (next_symbol l.strings l.heads l.start l.content) l.count [];
  many : length l.symbols.items ≡ l.i;
  known : (q : List ℕ) → is_some (number_in l.taken q) ≡ among q (exported l.symbols.items);
}
