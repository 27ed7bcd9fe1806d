use Rattle.arm7_transfers.proofs.BlockSteps.{fits_many, fits_none, fits_left, misses_left, words_need, sixteen}
use Rattle.arm7_transfers.proofs.block.missing_frame.Goals as goal

pub returns-in_default : goal.returns-in_default
returns-in_default g c = fits_none _ _ c.least_unused.result c.requires c.least_unused.ensures c.in_default.is

pub returns-then-pages_needed-pages_left : goal.returns-then-pages_needed-pages_left
returns-then-pages_needed-pages_left g c =
    misses_left _ _ c.pages_needed.result c.pages_left-2.result c.in-Some.address c.least_unused.result c.requires
    (words_need _ c.args.list c.args.a c.pages_needed.result c.requires c.ranges.a.fits (sixteen c.args.list) c.pages_needed.ensures.value)
    c.pages_left-2.ensures c.if-pages_needed-pages_left.true c.least_unused.ensures c.in-Some.is

pub returns-else-pages_needed-pages_left : goal.returns-else-pages_needed-pages_left
returns-else-pages_needed-pages_left g c =
    fits_left _ _ c.pages_needed.result c.pages_left-2.result c.requires
    (words_need _ c.args.list c.args.a c.pages_needed.result c.requires c.ranges.a.fits (sixteen c.args.list) c.pages_needed.ensures.value)
    c.pages_left-2.ensures c.if-pages_needed-pages_left.false

pub returns-then-pages_left-ge16 : goal.returns-then-pages_left-ge16
returns-then-pages_left-ge16 g c =
    fits_many _ c.args.list c.args.a c.pages_left.result c.requires c.ranges.a.fits c.pages_left.ensures c.if-pages_left-ge16.true
