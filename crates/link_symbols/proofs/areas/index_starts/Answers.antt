use Rattle.std.proofs.Common.{◌-◌, arith}
use Rattle.link_symbols.proofs.StartLemmas.{one_more}
use Rattle.link_symbols.proofs.areas.index_starts.Goals as goal

pub loop-i-preserved : goal.loop-i-preserved
loop-i-preserved c =
    one_more c.args.symbols.now (c.loop-i.i - 1) c.loop-i.i c.index-symbols-i.result c.loop-i.index c.put_start.new.index (omega arith) (omega arith)
    c.index-symbols-i.is c.in_ok-put_start.ensures c.loop-i.invariant
