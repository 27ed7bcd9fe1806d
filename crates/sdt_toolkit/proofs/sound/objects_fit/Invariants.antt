use Rattle.std.proofs.Common.{take}
use Rattle.std.specs.List.{AllByRecursion}
use Rattle.sdt_toolkit.specs.Starting.{HasBytes}
use Rattle.sdt_toolkit.proofs.sound.objects_fit.Given as goal

abbrev pub invariant-loop-object : goal.invariant-loop-object
invariant-loop-object l = AllByRecursion (λ o. HasBytes o.value) (take l.object-index l.objects)
