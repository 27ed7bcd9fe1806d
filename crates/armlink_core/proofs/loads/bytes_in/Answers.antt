use Rattle.std.proofs.Common.{◌≡◌, ◌≤◌, ◌++◌, arith, length, min, get_or}
use Rattle.armlink_core.proofs.LoadLemmas.{bytes_all, bytes_more, bytes_same}
use Rattle.armlink_core.proofs.loads.bytes_in.Goals as goal
use Rattle.armlink_core.proofs.loads.bytes_in.Goals.{then-regions-i+in_ok-extend_from_slice, else-regions-i}

pub loop-i-preserved : goal.loop-i-preserved
loop-i-preserved c =
    elim c.if-regions-i.branch [
      | then-regions-i+in_ok-extend_from_slice w ↦
          (let more : c.if-regions-i.out.items ≡ c.loop-i.out.items ++ get_or c.args.parts.now c.loop-i.i w.index-parts-i.result =
          let e1 = w.out-is in let e2 = w.in_ok-extend_from_slice.ensures in let e3 = w.as_slice.ensures in let e4 = w.index-parts-i.is in cc in
          bytes_more c.args.number c.loop-i.i c.args.regions.now c.args.parts.now c.index-regions-i.result w.index-parts-i.result c.loop-i.out.items c.if-regions-i.out.items _ w.if-regions-i.true
          (omega (arith, c.loop-i-test.true, c.min-i-end.ensures)) (omega (arith, c.loop-i-test.true, c.min-i-end.ensures)) c.index-regions-i.is c.loop-i.invariant more)
      | else-regions-i w ↦
          (let same : c.if-regions-i.out.items ≡ c.loop-i.out.items = let e1 = w.out-is in cc in
          bytes_same c.args.number c.loop-i.i c.args.regions.now c.args.parts.now c.index-regions-i.result c.loop-i.out.items c.if-regions-i.out.items _ w.if-regions-i.false
          (omega (arith, c.loop-i-test.true, c.min-i-end.ensures)) (omega (arith, c.loop-i-test.true, c.min-i-end.ensures)) c.index-regions-i.is c.loop-i.invariant same)
    ]

pub returns : goal.returns
returns c =
    let end : min (length c.args.regions.now) (length c.args.parts.now) ≤ c.loop-i.i = omega (arith, c.loop-i-test.false, c.min-i-end.ensures) in
    bytes_all c.args.number c.loop-i.i c.args.regions.now c.args.parts.now c.loop-i.out.items _ end c.loop-i.invariant
