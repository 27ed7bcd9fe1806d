use Rattle.sdt_toolkit.proofs.RunFiles.{files_are_read}
use Rattle.sdt_toolkit.proofs.laws.files_are_read.Goals as goal

pub returns : goal.returns
returns c = files_are_read c.map_law.ensures c.spelling_law.ensures
