use Rattle.std.proofs.Common.{◌≡◌, ◌++◌, map, drop}
use Rattle.link_items.specs.LinkedItems.{items_of}
use Rattle.link_assign.specs.Shown.{shown_item}
use Rattle.link_assign.proofs.items.push_items.Given as goal

abbrev pub invariant-loop-k : goal.invariant-loop-k
invariant-loop-k l = map shown_item l.items.items ++ items_of l.object l.home l.k (drop l.k l.areas) ≡ map shown_item l.initial.items.items ++ items_of l.object l.home 0 l.areas
