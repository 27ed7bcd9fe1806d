use Rattle.patch_model.proofs.BranchLemmas.{branch_decides}
use Rattle.patch_model.proofs.PatchLemmas.{reach_law}
use Rattle.patch_model.proofs.laws.reach_law.Goals as goal

pub returns : goal.returns
returns c = record { reaches = reach_law; test = branch_decides }
