use Rattle.hex_image.proofs.RoundTrip.{srec_law}
use Rattle.hex_image.proofs.laws.srec_law.Goals as goal

pub returns : goal.returns
returns c = srec_law
