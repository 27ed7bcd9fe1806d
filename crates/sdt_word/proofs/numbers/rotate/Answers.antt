use Rattle.std.proofs.Common.{◌∙◌}
use Rattle.sdt_word.proofs.NumbersLemmas.{rotate_right-rotated}
use Rattle.sdt_word.proofs.numbers.rotate.Goals as goal

pub returns : goal.returns
returns c = c.rotate_right.ensures ∙ rotate_right-rotated c.args.v c.args.n c.ranges.v.fits c.requires
