use Rattle.std.proofs.Common.{◌+◌, []}
use Rattle.std.specs.List.{flat_map}
use Rattle.place_model.specs.Faults.{lacking}
use Rattle.link_place.specs.Pieces.{seats}
use Rattle.link_place.specs.Checks.{span_of, range_by}
use Rattle.link_place.specs.Writable.{copy_lacking, lacked}
use Rattle.link_place.proofs.WritableLemmas.{least_all}
use Rattle.link_place.proofs.writable.least_of_region.Goals as goal

pub returns : goal.returns
returns c =
    let ram = c.args.ram.now in
    let r = c.args.region.now in
    least_all (copy_lacking ram r) (lacking ram (span_of [] (range_by (r.base + r.length) r.zero)))
    (flat_map (lacked ram c.args.words) (seats c.args.words c.args.origin 0 r.base c.args.part.now.things))
    c.least_copied-best.result c.least_of-best.result c.least_in.result
    c.least_copied-best.ensures c.least_of-best.ensures (rw c.as_slice.ensures at c.least_in.ensures)
