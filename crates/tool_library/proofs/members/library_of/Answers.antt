use Rattle.tool_library.proofs.SizeLemmas.{library_short}
use Rattle.tool_library.proofs.members.library_of.Goals as goal

pub returns-in-Ok-clause-short : goal.returns-in-Ok-clause-short
returns-in-Ok-clause-short c = library_short c.size_law.ensures c.in-Ok.members c.write_archive.result c.write_archive.ensures
