use Rattle.std.proofs.Common.{take}
use Rattle.std.specs.List.{AllByRecursion}
use Rattle.sdt_toolkit.specs.Starting.{HasBytes}
use Rattle.sdt_toolkit.proofs.sound.members_fit.Given as goal

abbrev pub invariant-loop-member : goal.invariant-loop-member
invariant-loop-member l = AllByRecursion (λ m. HasBytes m.object) (take l.member-index l.members)
