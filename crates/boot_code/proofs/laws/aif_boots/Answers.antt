use Rattle.boot_code.proofs.AifImage
use Rattle.boot_code.proofs.laws.aif_boots.Goals as goal

pub returns : goal.returns
returns c = record { in_arm = AifImage.aif_boots; by_veneer = AifImage.aif_veneer_boots }
