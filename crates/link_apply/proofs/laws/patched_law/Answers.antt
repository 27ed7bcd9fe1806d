use Rattle.link_apply.proofs.AreaLemmas.{patched_law}
use Rattle.link_apply.proofs.FieldLemmas.{veneer_law}
use Rattle.link_apply.proofs.laws.patched_law.Goals as goal

pub returns : goal.returns
returns c = record { patched = patched_law; veneer = veneer_law }
