use Rattle.aif_image.proofs.WrittenLemmas.{written}
use Rattle.aif_image.proofs.laws.written_law.Goals as goal

pub returns : goal.returns
returns c = written
