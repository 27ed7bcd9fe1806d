use Rattle.std.proofs.Common.{arith}
use Rattle.place_model.specs.Assignment.{described_regions}
use Rattle.link_place.specs.Parts.{contents_in}
use Rattle.link_place.proofs.PartLemmas.{parts_length}
use Rattle.link_place.proofs.placed.place_input.Goals as goal

pub place_parts-requires-clause-few : goal.place_parts-requires-clause-few
place_parts-requires-clause-few c =
    let k = c.args.input.now.kind.now in
    let count = parts_length k (contents_in c.args.input.now) 0 (described_regions k) in
    let regions = c.requires.regions in
    rw (c.as_slice-2.ensures.value, c.in_ok-parts.ensures) (omega (arith, count, regions))
