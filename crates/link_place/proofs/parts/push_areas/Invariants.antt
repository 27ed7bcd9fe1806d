use Rattle.std.proofs.Common.{◌≡◌, ◌++◌, drop}
use Rattle.std.specs.List.{AllByRecursion, filter_map}
use Rattle.link_items.specs.LinkedItems.{item_at}
use Rattle.link_place.specs.Parts.{area_pieces, IsAligned}
use Rattle.link_place.proofs.parts.push_areas.Given as goal

abbrev pub invariant-loop-name : goal.invariant-loop-name
invariant-loop-name l = record {
  so_far : l.out.items ++ area_pieces l.zero (filter_map (item_at l.objects) (drop l.name-index l.names))
      ≡ l.initial.out.items ++ area_pieces l.zero (filter_map (item_at l.objects) l.names);
  aligned : AllByRecursion IsAligned (filter_map (item_at l.objects) (drop l.name-index l.names));
}
