use Rattle.std.proofs.Common.{◌≡◌, ◌++◌, drop}
use Rattle.link_model.specs.Definitions.{definitions_in}
use Rattle.link_select.proofs.selecting.push_definitions.Given as goal

abbrev pub invariant-loop-k : goal.invariant-loop-k
invariant-loop-k l = l.definitions.items ++ definitions_in l.object l.k (drop l.k l.symbols) ≡ l.initial.definitions.items ++ definitions_in l.object 0 l.symbols
