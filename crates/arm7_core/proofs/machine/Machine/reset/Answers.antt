use Rattle.arm7_core.proofs.ResetLemmas.{reset_state}
use Rattle.arm7_core.proofs.machine.Machine.reset.Goals as goal

pub returns : goal.returns
returns c =
    rw c.reset_status.ensures (reset_state c.args.pc c.args.thumb c.ranges.pc.fits c.requires)
