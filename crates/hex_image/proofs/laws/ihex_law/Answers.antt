use Rattle.hex_image.proofs.RoundTrip.{ihex_law}
use Rattle.hex_image.proofs.laws.ihex_law.Goals as goal

pub returns : goal.returns
returns c = ihex_law
