use Rattle.asm_names.specs.Search.{starts}
use Rattle.asm_names.proofs.CallLemmas.{hand_more}
use Rattle.asm_names.proofs.search.all_waiting.Goals as goal

pub loop-i-preserved : goal.loop-i-preserved
loop-i-preserved c =
    hand_more c.loop-i.hand.items c.push.new.self.items (starts c.args.count) c.loop-i.i c.loop-i-test.true c.loop-i.invariant c.in_ok-push.ensures.items
