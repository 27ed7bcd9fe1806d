use Rattle.std.proofs.Common.{◌≡◌, ◌+◌, length, drop, arith}
use Rattle.link_place.specs.Parts.{contents_in}
use Rattle.link_place.proofs.PartLemmas.{drop_item, loads_more, few_more}
use Rattle.link_place.proofs.parts.parts_of_loads.Goals as goal

pub loop-load-preserved : goal.loop-load-preserved
loop-load-preserved c =
    let next = drop_item c.args.loads.now c.loop-load.load-index c.load-item.result c.loop-load-test.true c.load-item.is in
    let first : c.len-first.result ≡ length c.loop-load.out.items = omega arith in
    let more = rw (first, c.as_slice.ensures) at c.in_ok-push_parts.ensures in
    record {
      so_far = loads_more c.args.input.now.kind.now (contents_in c.args.input.now) c.load-item.result (drop (c.loop-load.load-index + 1) c.args.loads.now) c.loop-load.out.items _ _ (rw next at c.loop-load.invariant.so_far) more;
      few = few_more c.args.input.now.kind.now (contents_in c.args.input.now) c.load-item.result (drop (c.loop-load.load-index + 1) c.args.loads.now) c.loop-load.out.items _ (rw next at c.loop-load.invariant.few) more;
    }
