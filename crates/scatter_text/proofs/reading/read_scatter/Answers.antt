use Rattle.scatter_text.proofs.FaultLemmas.{fault_in}
use Rattle.scatter_text.proofs.LawLemmas.{found_in, only_in}
use Rattle.scatter_text.proofs.reading.read_scatter.Goals as goal

pub returns-clause-found : goal.returns-clause-found
returns-clause-found c = found_in c.args.text.now c.description.result c.description.ensures

pub returns-clause-only : goal.returns-clause-only
returns-clause-only c = only_in c.args.text.now c.description.result c.description.ensures

pub returns-clause-fault : goal.returns-clause-fault
returns-clause-fault c = fault_in c.args.text.now c.description.result c.description.ensures
