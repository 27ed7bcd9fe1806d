use Rattle.boot_code.proofs.AifImage
use Rattle.boot_code.proofs.laws.aif_is_exact.Goals as goal

pub returns : goal.returns
returns c = record { in_arm = AifImage.aif_is_exact; by_veneer = AifImage.aif_veneer_is_exact }
