use Rattle.std.proofs.Common.{◌≡◌, ℕ, List, take}
use Rattle.std.specs.List.{flat_map}
use Rattle.aof_object.specs.Spelling.{symbol_row}
use Rattle.aof_object.specs.Places.{Tells}
use Rattle.aof_object.proofs.writing.symbol_table.Given as goal

abbrev pub invariant-loop-symbol : goal.invariant-loop-symbol
invariant-loop-symbol l = (ns : List (List ℕ)) → Tells l.places ns → l.out.items ≡ flat_map (symbol_row ns l.areas) (take l.symbol-index l.symbols)
