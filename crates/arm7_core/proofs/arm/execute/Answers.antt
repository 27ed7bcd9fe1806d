use Rattle.arm7_core.proofs.ArmSteps.{executes_arm, executes_none}
use Rattle.arm7_core.proofs.arm.execute.Goals as goal

pub returns-in-Some-clause-executes : goal.returns-in-Some-clause-executes
returns-in-Some-clause-executes g c =
    executes_arm c.args.word c.in-Some.i.now c.args.core.now _ c.do_arm.result c.do_arm.new.core _ c.in-Some.ensures c.do_arm.ensures.done

pub returns-in-None-clause-executes : goal.returns-in-None-clause-executes
returns-in-None-clause-executes g c = executes_none c.args.word c.args.core.now _ c.requires.ready c.in-None.ensures
