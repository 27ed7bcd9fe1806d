use Rattle.sdt_toolkit.proofs.BurnLinked.{linked_burns}
use Rattle.sdt_toolkit.proofs.laws.linked_burns.Goals as goal

pub returns : goal.returns
returns c = linked_burns c.files_are_read.ensures c.ihex_law.ensures c.srec_law.ensures
