use Rattle.sdt_toolkit.proofs.BigAnswer.{load_more}
use Rattle.sdt_toolkit.proofs.big_image.loads_of.Goals as goal

pub loop-load-preserved : goal.loop-load-preserved
loop-load-preserved c = rw c.in-Ok.ensures (load_more c.loop-load.yielded c.in-Some.load c.loop-load.out.items c.loop-load.invariant)
