use Rattle.boot_code.proofs.AifImage
use Rattle.boot_code.proofs.laws.fixed_aif_is_exact.Goals as goal

pub returns : goal.returns
returns c = record {
  in_arm = AifImage.fixed_aif_is_exact;
  by_veneer = AifImage.fixed_aif_veneer_is_exact;
  in_arm_within_the_bound = AifImage.fixed_aif_boots;
  by_veneer_within_the_bound = AifImage.fixed_aif_veneer_boots;
}
