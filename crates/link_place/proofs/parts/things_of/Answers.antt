use Rattle.std.proofs.Common.{◌∙◌}
use Rattle.link_items.specs.LinkedItems.{item_at}
use Rattle.link_place.proofs.PartLemmas.{aligned_at, things_are}
use Rattle.link_place.proofs.parts.things_of.Goals as goal

pub push_areas-requires : goal.push_areas-requires
push_areas-requires c = rw c.areas_of.ensures (aligned_at (item_at c.args.input.now.objects.now) c.args.input.now.assigned.now c.args.number c.requires.areas)

pub returns : goal.returns
returns c = c.from_vec.ensures ∙ things_are c.args.input.now.objects.now c.args.input.now.assigned.now c.args.input.now.veneers.now c.args.input.now.kind.now c.args.number _ _ _ _ _
    c.areas_of.ensures (rw c.new-out.ensures.items at c.in_ok-push_header.ensures) c.in_ok-push_areas.ensures c.in_ok-push_veneers.ensures c.in_ok-push_startup.ensures
