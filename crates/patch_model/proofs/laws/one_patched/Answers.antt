use Rattle.patch_model.proofs.PatchLemmas.{one_patched, one_object}
use Rattle.patch_model.proofs.laws.one_patched.Goals as goal

pub returns-clause-area : goal.returns-clause-area
returns-clause-area c = one_patched

pub returns-clause-object : goal.returns-clause-object
returns-clause-object c = one_object
