use Rattle.std.proofs.Common.{arith}
use Rattle.aof_object.proofs.Rows.{total_more}
use Rattle.aof_object.proofs.areas.total_of.Goals as goal

pub loop-head-preserved : goal.loop-head-preserved
loop-head-preserved c =
    let more = total_more c.args.heads.now c.loop-head.head-index c.head-item.result c.loop-head-test.true c.head-item.is in
    record { so_far = omega (arith, more, c.loop-head.invariant.so_far, c.extent_of-total.ensures.exact); most = omega (arith, c.loop-head.invariant.most, c.extent_of-total.ensures.most) }
