use Rattle.arm7_core.proofs.ThumbSteps.{executes_read, executes_unread}
use Rattle.arm7_core.proofs.thumb_step.execute.Goals as goal

pub returns-in-Some-clause-executes : goal.returns-in-Some-clause-executes
returns-in-Some-clause-executes g c =
    executes_read _ _ _ _ _ _ _ c.in-Some.ensures c.do_thumb.ensures.done

pub returns-in-None-clause-executes : goal.returns-in-None-clause-executes
returns-in-None-clause-executes g c = executes_unread _ _ _ c.requires.ready c.in-None.ensures
