use Rattle.std.proofs.Common.{◌-◌}
use Rattle.arm7_transfers.proofs.block.+all_may_store.Given as goal

abbrev pub decreases-all_may_store : goal.decreases-all_may_store
decreases-all_may_store g l = 16 - l.k
