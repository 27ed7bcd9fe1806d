use Rattle.source_laws.proofs.FaultlessLemmas.{sources_stand_apart}
use Rattle.source_laws.proofs.laws.sources_stand_apart.Goals as goal

pub returns : goal.returns
returns c = sources_stand_apart
