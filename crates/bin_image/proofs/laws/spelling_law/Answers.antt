use Rattle.bin_image.proofs.MapLaws.{spelling_law}
use Rattle.bin_image.proofs.laws.spelling_law.Goals as goal

pub returns : goal.returns
returns c = spelling_law
