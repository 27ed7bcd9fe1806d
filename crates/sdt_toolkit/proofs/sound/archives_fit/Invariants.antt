use Rattle.std.proofs.Common.{take}
use Rattle.std.specs.List.{AllByRecursion}
use Rattle.sdt_toolkit.specs.Starting.{HasBytes}
use Rattle.sdt_toolkit.proofs.sound.archives_fit.Given as goal

abbrev pub invariant-loop-archive : goal.invariant-loop-archive
invariant-loop-archive l = AllByRecursion (λ a. AllByRecursion (λ m. HasBytes m.object) a.value.members) (take l.archive-index l.archives)
