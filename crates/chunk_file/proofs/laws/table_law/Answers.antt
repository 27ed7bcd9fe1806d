use Rattle.chunk_file.proofs.Table.{table_law}
use Rattle.chunk_file.proofs.laws.table_law.Goals as goal

pub returns : goal.returns
returns c = table_law
