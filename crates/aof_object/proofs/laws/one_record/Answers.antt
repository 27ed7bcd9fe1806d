use Rattle.aof_object.proofs.ObjectLaw.{one_record}
use Rattle.aof_object.proofs.laws.one_record.Goals as goal

pub returns : goal.returns
returns c = one_record
