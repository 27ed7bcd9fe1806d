use Rattle.std.proofs.Common.{arith, false}
use Rattle.arm7_transfers.proofs.DrawnLemmas.{part-bytes, part-length, piece-served, piece-taken, piece-there}
use Rattle.arm7_transfers.proofs.block.taken_at_once.Goals as goal

pub take_words-requires : goal.take_words-requires
take_words-requires g c =
    let size = part-length _ _ _ _ c.in-Some.ensures in
    let count = c.count-n.ensures.value in
    omega arith

pub returns-clause-taken : goal.returns-clause-taken
returns-clause-taken g c =
    let size = part-length _ _ _ _ c.in-Some.ensures in
    λ _. (
      piece-there _ c.args.list c.count-n.result c.args.a c.in-Some.part.now c.requires.ready c.requires.aligned c.ranges.a.fits (part-bytes _ _ _ _ c.ranges.a.fits c.in-Some.ensures) c.count-n.ensures.value (omega arith),
      piece-taken _ false c.args.write_back c.args.list c.count-n.result c.args.a c.args.rn c.args.end c.args.core.now c.set_block_base.new.state c.take_words.new.core c.in-Some.part.now
          c.requires.ready c.requires.aligned c.ranges.a.fits (part-bytes _ _ _ _ c.ranges.a.fits c.in-Some.ensures) c.count-n.ensures.value (omega arith) c.set_block_base.ensures c.take_words.ensures,
      piece-served _ c.args.list c.count-n.result c.args.a c.in-Some.part.now c.requires.ready c.requires.aligned c.ranges.a.fits (part-bytes _ _ _ _ c.ranges.a.fits c.in-Some.ensures) c.count-n.ensures.value (omega arith),
    )
