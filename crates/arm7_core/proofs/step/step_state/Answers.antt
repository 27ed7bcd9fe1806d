use Rattle.arm7_core.proofs.MachineSteps.{plain_step, ready_ticked, taken_step}
use Rattle.arm7_core.proofs.step.step_state.Goals as goal

pub step_half-requires-clause-ready : goal.step_half-requires-clause-ready
step_half-requires-clause-ready g c = ready_ticked _ _ c.tick_knowing-lines.ensures.after c.requires.ready

pub step_arm-requires-clause-ready : goal.step_arm-requires-clause-ready
step_arm-requires-clause-ready g c = ready_ticked _ _ c.tick_knowing-lines.ensures.after c.requires.ready

pub returns-in-Some-clause-step : goal.returns-in-Some-clause-step
returns-in-Some-clause-step g c =
    taken_step c.args.core.now c.enter.new.state _ _ c.in-Some.exception c.register-at.result c.interrupt.result c.tick_knowing-lines.result c.requires.ready c.tick_knowing-lines.ensures.after c.tick_knowing-lines.ensures.lines
    c.interrupt.ensures c.in-Some.is c.register-at.ensures c.enter.ensures

pub returns-in-Some-clause-ready : goal.returns-in-Some-clause-ready
returns-in-Some-clause-ready g c = ready_ticked _ _ c.tick_knowing-lines.ensures.after c.requires.ready

pub returns-then-is_thumb-clause-step : goal.returns-then-is_thumb-clause-step
returns-then-is_thumb-clause-step g c =
    plain_step c.args.core.now c.step_half.new.core _ _ _ c.step_half.result c.interrupt.result c.tick_knowing-lines.result c.requires.ready c.tick_knowing-lines.ensures.after c.tick_knowing-lines.ensures.lines
    c.interrupt.ensures c.in-None.is c.step_half.ensures.step

pub returns-else-is_thumb-clause-step : goal.returns-else-is_thumb-clause-step
returns-else-is_thumb-clause-step g c =
    plain_step c.args.core.now c.step_arm.new.core _ _ _ c.step_arm.result c.interrupt.result c.tick_knowing-lines.result c.requires.ready c.tick_knowing-lines.ensures.after c.tick_knowing-lines.ensures.lines
    c.interrupt.ensures c.in-None.is c.step_arm.ensures.step
