use Rattle.source_laws.proofs.FaultlessLemmas.{sources_keep_states}
use Rattle.source_laws.proofs.laws.sources_keep_states.Goals as goal

pub returns : goal.returns
returns c = sources_keep_states
