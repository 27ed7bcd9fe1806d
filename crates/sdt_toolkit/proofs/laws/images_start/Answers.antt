use Rattle.sdt_toolkit.proofs.AifStartLemmas.{images_are_placed}
use Rattle.sdt_toolkit.proofs.laws.images_start.Goals as goal

pub returns : goal.returns
returns c = images_are_placed c.reading_law.ensures
