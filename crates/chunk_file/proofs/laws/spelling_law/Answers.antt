use Rattle.chunk_file.proofs.Spelling.{spelling_law}
use Rattle.chunk_file.proofs.laws.spelling_law.Goals as goal

pub returns : goal.returns
returns c = spelling_law
