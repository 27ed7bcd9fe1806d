use Rattle.asm_names.proofs.CallLemmas.{index_back}
use Rattle.asm_names.proofs.index.index_of.Goals as goal

pub loop-i-preserved : goal.loop-i-preserved
loop-i-preserved c = index_back c.args.equals.now c.loop-i.index c.put.new.index c.loop-i.i c.index-equals-i.result c.loop-i-test.true c.loop-i.auto.i
    c.loop-i.invariant c.in_ok-put.ensures
