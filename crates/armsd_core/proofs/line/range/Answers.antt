use Rattle.std.proofs.Common.{arith}
use Rattle.armsd_core.proofs.NumberLemmas.{range_ends, range_beyond}
use Rattle.armsd_core.proofs.line.range.Goals as goal

pub returns-then-from-size : goal.returns-then-from-size
returns-then-from-size c = range_beyond c.args.base c.args.size (omega arith)

pub returns : goal.returns
returns c = range_ends c.args.base c.args.size _ _ c.from-size.ensures
