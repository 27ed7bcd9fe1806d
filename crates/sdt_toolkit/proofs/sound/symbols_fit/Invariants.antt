use Rattle.std.proofs.Common.{◌<◌, ◌^◌, take}
use Rattle.std.specs.List.{AllByRecursion}
use Rattle.sdt_toolkit.proofs.sound.symbols_fit.Given as goal

abbrev pub invariant-loop-symbol : goal.invariant-loop-symbol
invariant-loop-symbol l = AllByRecursion (λ s. (s.attributes < 2 ^ 32) × (s.value < 2 ^ 32)) (take l.symbol-index l.symbols)
