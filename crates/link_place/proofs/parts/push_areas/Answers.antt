use Rattle.link_place.proofs.PartLemmas.{drop_next, areas_more, aligned_next}
use Rattle.link_place.proofs.parts.push_areas.Goals as goal

pub push_area-requires : goal.push_area-requires
push_area-requires c =
    let next = drop_next c.args.names.now c.loop-name.name-index (record { object = 0; area = 0 }) c.loop-name-test.true in
    (aligned_next c.args.objects.now _ _ (rw next at c.loop-name.invariant.aligned)).0

pub loop-name-preserved : goal.loop-name-preserved
loop-name-preserved c =
    let next = drop_next c.args.names.now c.loop-name.name-index (record { object = 0; area = 0 }) c.loop-name-test.true in
    record {
      so_far = areas_more c.args.objects.now c.args.zero _ _ c.loop-name.out.items _ _ (rw next at c.loop-name.invariant.so_far) c.in_ok-push_area.ensures;
      aligned = (aligned_next c.args.objects.now _ _ (rw next at c.loop-name.invariant.aligned)).1;
    }
