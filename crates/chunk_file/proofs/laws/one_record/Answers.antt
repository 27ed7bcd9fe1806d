use Rattle.chunk_file.proofs.Table.{one_record}
use Rattle.chunk_file.proofs.laws.one_record.Goals as goal

pub returns : goal.returns
returns c = one_record
