use Rattle.std.proofs.Common.{refl}
use Rattle.arm7_transfers.proofs.PickedLemmas.{listed_count, listed_few}
use Rattle.arm7_transfers.proofs.block.count.Goals as goal

pub returns-clause-value : goal.returns-clause-value
returns-clause-value c = listed_count c.args.list _ refl

pub returns-clause-few : goal.returns-clause-few
returns-clause-few c = listed_few c.args.list _ refl
