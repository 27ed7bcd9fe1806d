use Rattle.hex_image.proofs.FaultLemmas.{first_fault}
use Rattle.hex_image.proofs.laws.first_fault_law.Goals as goal

pub returns : goal.returns
returns c = first_fault
