use Rattle.std.specs.BTreeMap.{get}
use Rattle.std.specs.Ordering.{nat_cmp}
use Rattle.hex_image.proofs.PieceLemmas.{below_less, less_below, met_by, not_less}
use Rattle.hex_image.proofs.pieces.Pieces.meets.Goals as goal

pub returns-in-Some : goal.returns-in-Some
returns-in-Some c =
    let part = c.range.ensures.in_range tt in
    let here = part.3 _ _ c.in-Some.ensures.steps in
    met_by c.args.self.now.pieces.items (λ k. get nat_cmp c.args.self.now.ends k) c.args.base c.args.end c.in-Some.field-0-0.now c.in-Some.last.now c.requires.ends here.1
    (less_below c.in-Some.field-0-0.now c.args.end here.0.1)
    (λ q below some. not_less c.in-Some.field-0-0.now q (part.4 _ _ c.in-Some.ensures.steps q (tt, below_less q c.args.end below) some))
