use Rattle.tool_run.proofs.BurnedLemmas.{burn_loads}
use Rattle.tool_run.proofs.burned.burn_load_law.Goals as goal

pub returns : goal.returns
returns c = burn_loads
