use Rattle.aif_image.proofs.CheckLaws.{aif_law}
use Rattle.aif_image.proofs.laws.aif_law.Goals as goal

pub returns : goal.returns
returns c = aif_law
