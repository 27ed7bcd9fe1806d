use Rattle.link_veneer.proofs.LawLemmas.{interworking}
use Rattle.link_veneer.proofs.laws.interworking_law.Goals as goal

pub returns : goal.returns
returns c = interworking
