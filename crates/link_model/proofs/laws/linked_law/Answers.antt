use Rattle.link_model.proofs.LinkedOnce.{linked_once, nameless}
use Rattle.link_model.proofs.laws.linked_law.Goals as goal

pub returns : goal.returns
returns c = record { one = linked_once; nameless = nameless }
