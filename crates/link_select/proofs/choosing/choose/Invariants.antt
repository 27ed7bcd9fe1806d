use Rattle.std.proofs.Common.{◌+◌, length}
use Rattle.link_model.specs.Members.{members_of, objects_in}
use Rattle.link_select.specs.Search.{supply_of, unmarked}
use Rattle.link_select.proofs.SearchLemmas.{Searched}
use Rattle.link_select.proofs.choosing.choose.Given as goal

abbrev pub invariant-loop-number : goal.invariant-loop-number
invariant-loop-number l = Searched (supply_of l.supply) (objects_in l.fn.objects) (objects_in (members_of l.archives)) l.marks.items l.waiting.items

abbrev pub decreases-loop-number : goal.decreases-loop-number
decreases-loop-number l = unmarked l.marks.items + length l.waiting.items
