use Rattle.std.proofs.Common.{take}
use Rattle.std.specs.List.{AllByRecursion}
use Rattle.link_apply.specs.Laws.{AreBytes}
use Rattle.sdt_toolkit.proofs.sound.areas_fit.Given as goal

abbrev pub invariant-loop-area : goal.invariant-loop-area
invariant-loop-area l = AllByRecursion (λ a. AreBytes a.bytes) (take l.area-index l.areas)
