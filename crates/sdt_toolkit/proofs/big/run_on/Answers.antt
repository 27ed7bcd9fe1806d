use Rattle.std.proofs.Common.{arith}
use Rattle.sdt_toolkit.proofs.BigRuns.{has_ended}
use Rattle.sdt_toolkit.proofs.big.run_on.Goals as goal

pub returns : goal.returns
returns g c =
    let count = c.from.ensures in
    has_ended _ _ _ _ _ _ _ _ _ _ _ _ _ _ _ c.reset-machine.ensures (omega arith) c.run_for-end.ensures.runs
    c.startup_steps.ensures c.saturating_sub.ensures c.sum_in.ensures c.into_devices.ensures
