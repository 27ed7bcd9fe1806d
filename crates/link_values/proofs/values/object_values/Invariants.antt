use Rattle.std.proofs.Common.{◌≡◌, ◌++◌, map, drop}
use Rattle.link_values.specs.Values.{meant, taken_value}
use Rattle.link_values.proofs.values.object_values.Given as goal

abbrev pub invariant-loop-symbol : goal.invariant-loop-symbol
invariant-loop-symbol l = map meant l.values.items ++ map (taken_value l.boot l.known l.object) (drop l.symbol-index l.symbols) ≡ map (taken_value l.boot l.known l.object) l.symbols
