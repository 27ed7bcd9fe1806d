use Rattle.std.proofs.Common.{take}
use Rattle.std.specs.List.{flat_map}
use Rattle.link_model.specs.Chosen.{wanted}
use Rattle.link_select.specs.Search.{supply_of, Takes}
use Rattle.link_select.proofs.choosing.ask_all.Given as goal

abbrev pub invariant-loop-object : goal.invariant-loop-object
invariant-loop-object l = Takes l.initial.marks.items l.marks.items l.initial.waiting.items l.waiting.items (flat_map (λ o. wanted (supply_of l.supply) o.value) (take l.object-index l.objects))
