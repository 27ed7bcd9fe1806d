use Rattle.std.proofs.Common.{◌≡◌, ◌++◌, drop}
use Rattle.std.specs.List.{filter_map}
use Rattle.link_model.specs.Chosen.{asked}
use Rattle.link_select.specs.Search.{supply_of}
use Rattle.link_select.proofs.choosing.wanted_by.Given as goal

abbrev pub invariant-loop-symbol : goal.invariant-loop-symbol
invariant-loop-symbol l = l.numbers.items ++ filter_map (asked (supply_of l.supply)) (drop l.symbol-index l.symbols) ≡ filter_map (asked (supply_of l.supply)) l.symbols
