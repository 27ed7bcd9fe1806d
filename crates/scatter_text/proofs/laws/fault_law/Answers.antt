use Rattle.scatter_text.proofs.FaultLemmas.{fault_law}
use Rattle.scatter_text.proofs.laws.fault_law.Goals as goal

pub returns : goal.returns
returns c = fault_law
