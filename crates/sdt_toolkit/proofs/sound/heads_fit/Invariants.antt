use Rattle.std.proofs.Common.{take}
use Rattle.std.specs.List.{AllByRecursion}
use Rattle.aof_object.specs.Grammar.{AreaFits}
use Rattle.sdt_toolkit.proofs.sound.heads_fit.Given as goal

abbrev pub invariant-loop-area : goal.invariant-loop-area
invariant-loop-area l = AllByRecursion AreaFits (take l.area-index l.areas)
