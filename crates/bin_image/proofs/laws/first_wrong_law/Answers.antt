use Rattle.bin_image.proofs.MapLaws.{first_wrong_law}
use Rattle.bin_image.proofs.laws.first_wrong_law.Goals as goal

pub returns : goal.returns
returns c = first_wrong_law
