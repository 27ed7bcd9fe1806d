use Rattle.std.proofs.Common.{ap, is_some}
use Rattle.arm7_transfers.proofs.StepLemmas.{stepped-as}
use Rattle.arm7_core.proofs.ArmSteps.{arm_absent, arm_finished, arm_odd}
use Rattle.arm7_core.proofs.arm.step_arm.Goals as goal

pub returns-then-at-ne0-clause-step : goal.returns-then-at-ne0-clause-step
returns-then-at-ne0-clause-step g c =
    arm_odd c.args.core.now _ c.register-at.result c.requires.arm c.requires.ready c.register-at.ensures c.if-at-ne0.true

pub returns-in_default-clause-step : goal.returns-in_default-clause-step
returns-in_default-clause-step g c =
    stepped-as c.args.core.now c.prefetch_abort.new.state _ _ _ c.prefetch_abort.result (c.fetch.ensures.same c.in_default.is)
    (arm_absent c.args.core.now c.prefetch_abort.new.state _ c.register-at.result (is_some c.fetch.result) c.prefetch_abort.result c.requires.arm c.requires.ready c.register-at.ensures c.if-at-ne0.false
    c.fetch.ensures.there (ap is_some c.in_default.is) c.prefetch_abort.ensures.event c.prefetch_abort.ensures.registers)

pub returns-clause-step : goal.returns-clause-step
returns-clause-step g c =
    arm_finished c.args.core.now c.advance.new.core c.execute-outcome.new.core c.finish.new.state _ _ _ c.register-at.result c.in-Some.word (is_some c.fetch.result) c.execute-outcome.result c.finish.result
    c.requires.arm c.requires.ready c.register-at.ensures c.if-at-ne0.false c.fetch.ensures.there (ap is_some c.in-Some.is) c.in-Some.ensures.value c.fetch.ensures.after c.advance.ensures
    c.execute-outcome.ensures.executes c.finish.ensures.event c.finish.ensures.registers
