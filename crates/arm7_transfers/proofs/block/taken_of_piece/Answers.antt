use Rattle.std.proofs.Common.{arith, false}
use Rattle.arm7_transfers.proofs.DrawnLemmas.{piece-bytes, piece-served, piece-taken, piece-there}
use Rattle.arm7_transfers.proofs.block.taken_of_piece.Goals as goal

pub take_words-requires : goal.take_words-requires
take_words-requires g c =
    let count = c.count-n.ensures.value in
    omega arith

pub returns-clause-taken : goal.returns-clause-taken
returns-clause-taken g c = λ _. (
  piece-there _ c.args.list c.count-n.result c.args.a c.piece-bytes.result.now c.requires.ready c.requires.aligned c.ranges.a.fits (piece-bytes _ _ _ c.piece-bytes.ensures) c.count-n.ensures.value (omega arith),
  piece-taken _ false c.args.write_back c.args.list c.count-n.result c.args.a c.args.rn c.args.end c.args.core.now c.set_block_base.new.state c.take_words.new.core c.piece-bytes.result.now
      c.requires.ready c.requires.aligned c.ranges.a.fits (piece-bytes _ _ _ c.piece-bytes.ensures) c.count-n.ensures.value (omega arith) c.set_block_base.ensures c.take_words.ensures,
  piece-served _ c.args.list c.count-n.result c.args.a c.piece-bytes.result.now c.requires.ready c.requires.aligned c.ranges.a.fits (piece-bytes _ _ _ c.piece-bytes.ensures) c.count-n.ensures.value (omega arith),
)
