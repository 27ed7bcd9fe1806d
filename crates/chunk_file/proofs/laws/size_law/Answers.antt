use Rattle.chunk_file.proofs.Spelling.{length-spelled}
use Rattle.chunk_file.proofs.laws.size_law.Goals as goal

pub returns : goal.returns
returns c = length-spelled
