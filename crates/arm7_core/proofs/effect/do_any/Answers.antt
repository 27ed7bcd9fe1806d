use Rattle.arm7_core.proofs.ArmParts.{done_held, done_well}
use Rattle.arm7_core.proofs.effect.do_any.Goals as goal

pub returns-in-Some-clause-done : goal.returns-in-Some-clause-done
returns-in-Some-clause-done g c = done_held c.args.i.now c.args.core.now _ c.in-Some.held c.requires.ready c.in-Some.ensures

pub returns-clause-done : goal.returns-clause-done
returns-clause-done g c = done_well c.args.i.now c.args.core.now _ c.effect.result c.effect.new.core _ c.in_default.ensures c.effect.ensures.done
