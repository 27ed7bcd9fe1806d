use Rattle.std.proofs.Common.{◌+◌, drop, get_or}
use Rattle.link_place.specs.declared.pieces.Piece.TheVariants.{Header}
use Rattle.link_place.proofs.PartLemmas.{drop_next}
use Rattle.link_place.proofs.WritableLemmas.{least_next, reach_next}
use Rattle.link_place.proofs.writable.least_in.Goals as goal

pub loop-piece-preserved : goal.loop-piece-preserved
loop-piece-preserved c =
    let i = c.loop-piece.piece-index in
    let pieces = c.args.pieces.now in
    let p = get_or pieces i Header in
    let ps = drop (i + 1) pieces in
    let next = drop_next pieces i Header c.loop-piece-test.true in
    let known = c.loop-piece.invariant in
    let start = c.start_of-address.ensures.start in
    let size = c.size_of.ensures.size in
    record {
      so_far = least_next c.args.ram.now c.args.words c.args.origin c.loop-piece.end c.start_of-address.result c.size_of.result p ps c.loop-piece.best c.least_at-best.result _
          (rw next at known.so_far) start size c.least_at-best.ensures;
      place = reach_next c.args.words c.args.origin c.loop-piece.end c.start_of-address.result c.size_of.result _ p ps (rw next at known.place) start size;
    }
