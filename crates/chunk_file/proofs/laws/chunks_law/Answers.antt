use Rattle.chunk_file.proofs.Table.{chunks_law}
use Rattle.chunk_file.proofs.laws.chunks_law.Goals as goal

pub returns : goal.returns
returns c = chunks_law
