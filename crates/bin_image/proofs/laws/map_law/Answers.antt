use Rattle.bin_image.proofs.MapLaws.{map_law}
use Rattle.bin_image.proofs.laws.map_law.Goals as goal

pub returns : goal.returns
returns c = map_law
