use Rattle.std.proofs.Common.{◌+◌}
use Rattle.link_place.specs.Pieces.{seats}
use Rattle.link_place.specs.Placings.{region_seats, AreStood}
use Rattle.link_place.proofs.PlacingLemmas.{stood_join, ok_more}
use Rattle.link_place.proofs.placing.put_region.Goals as goal

pub returns : goal.returns
returns c =
    let r = c.args.laid.now.region in
    let things = seats c.args.words c.args.origin c.args.number r.base c.args.part.now.things in
    let zeros = seats c.args.words c.args.origin c.args.number (r.base + r.length) c.args.part.now.zeros in
    let first = rw c.as_slice.ensures at c.in_ok-put_all.ensures in
    let second = rw c.as_slice-2.ensures at c.put_all-2.ensures in
    ok_more c.put_all-2.result (AreStood c.put_all.new.out c.put_all-2.new.out zeros) (AreStood c.args.out.now c.put_all-2.new.out (region_seats c.args.words c.args.origin c.args.number c.args.part.now c.args.laid.now))
    (λ k. stood_join c.args.out.now c.put_all.new.out c.put_all-2.new.out things zeros first k) second
