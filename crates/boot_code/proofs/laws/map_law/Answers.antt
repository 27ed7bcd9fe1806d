use Rattle.boot_code.proofs.MapLemmas
use Rattle.boot_code.proofs.laws.map_law.Goals as goal

pub returns : goal.returns
returns c = MapLemmas.map_law
