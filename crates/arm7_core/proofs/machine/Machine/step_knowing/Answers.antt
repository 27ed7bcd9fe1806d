use Rattle.arm7_core.proofs.MachineSteps.{valid_step}
use Rattle.arm7_core.proofs.machine.Machine.step_knowing.Goals as goal

pub returns-clause-valid : goal.returns-clause-valid
returns-clause-valid g c =
    valid_step c.args.self.now.state c.step_state-event.new.core _ _ c.step_state-event.result c.requires.ready c.step_is_valid.ensures c.requires.valid c.step_state-event.ensures.bytes c.step_state-event.ensures.step
