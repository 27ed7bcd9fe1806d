use Rattle.std.proofs.Common.{arith}
use Rattle.gdb_packets.proofs.RangeLemmas.{range_ends, range_beyond}
use Rattle.gdb_packets.proofs.request.ending.Goals as goal

pub returns-then-from-size : goal.returns-then-from-size
returns-then-from-size c = range_beyond c.args.a c.args.n (omega arith)

pub returns : goal.returns
returns c = range_ends c.args.a c.args.n _ _ c.from-size.ensures
