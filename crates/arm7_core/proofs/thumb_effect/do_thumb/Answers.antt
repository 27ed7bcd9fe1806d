use Rattle.arm7_core.proofs.ThumbSteps.{predictable, unpredictable}
use Rattle.arm7_core.proofs.thumb_effect.do_thumb.Goals as goal

pub returns-then-thumb_unpredictable-clause-done : goal.returns-then-thumb_unpredictable-clause-done
returns-then-thumb_unpredictable-clause-done g c =
    unpredictable c.args.i.now c.args.core.now _ c.thumb_unpredictable.result c.requires.ready c.thumb_unpredictable.ensures c.if-thumb_unpredictable.true

pub returns-clause-done : goal.returns-clause-done
returns-clause-done g c =
    predictable c.args.i.now c.args.core.now _ c.thumb_unpredictable.result _ _ _ c.thumb_unpredictable.ensures c.if-thumb_unpredictable.false c.effect.ensures.done
