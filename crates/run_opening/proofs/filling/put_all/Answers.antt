use Rattle.std.proofs.Common.{arith}
use Rattle.run_opening.proofs.PutLemmas.{put_on}
use Rattle.run_opening.proofs.filling.put_all.Goals as goal

pub bytes-preserved : goal.bytes-preserved
bytes-preserved g c = record {
  within = c.put_next-i.ensures.next.1;
  after = put_on _ _ _ c.args.base_of c.bytes.i c.put_next-i.result c.args.bytes.now (omega (arith, c.put_next-i.ensures.next.0)) c.bytes.invariant.within c.bytes.invariant.after c.put_next-i.ensures.after;
}
