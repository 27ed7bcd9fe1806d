use Rattle.std.proofs.Common.{ℕ, List, take}
use Rattle.aof_object.specs.Spelling.{gathered, symbol_names}
use Rattle.aof_object.specs.Places.{IsTable}
use Rattle.aof_object.proofs.table.gather_symbols.Given as goal

abbrev pub invariant-loop-symbol : goal.invariant-loop-symbol
invariant-loop-symbol l = (ns : List (List ℕ)) → IsTable l.initial.bytes.items l.initial.places ns → IsTable l.bytes.items l.places (gathered ns (symbol_names (take l.symbol-index l.symbols)))
