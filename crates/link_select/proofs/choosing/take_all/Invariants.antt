use Rattle.std.proofs.Common.{take}
use Rattle.link_select.specs.Search.{Takes}
use Rattle.link_select.proofs.choosing.take_all.Given as goal

abbrev pub invariant-loop-number : goal.invariant-loop-number
invariant-loop-number l = Takes l.initial.marks.items l.marks.items l.initial.waiting.items l.waiting.items (take l.number-index l.numbers)
