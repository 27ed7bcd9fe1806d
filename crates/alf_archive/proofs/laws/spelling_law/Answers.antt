use Rattle.alf_archive.proofs.SpelledArchive.{spelling_law}
use Rattle.alf_archive.proofs.laws.spelling_law.Goals as goal

pub returns : goal.returns
returns c = spelling_law
