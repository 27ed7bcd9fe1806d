use Rattle.std.proofs.Common.{◌≡◌, ◌++◌, map, drop}
use Rattle.link_items.specs.LinkedItems.{items_from, items_in}
use Rattle.link_assign.specs.Shown.{shown_item}
use Rattle.link_assign.proofs.items.items_of_objects.Given as goal

abbrev pub invariant-loop-i : goal.invariant-loop-i
invariant-loop-i l = map shown_item l.items.items ++ items_from l.i (drop l.i l.objects) ≡ items_in l.objects
