use Rattle.alf_archive.proofs.ArchiveLaw.{archive_law}
use Rattle.alf_archive.proofs.laws.archive_law.Goals as goal

pub returns : goal.returns
returns c = archive_law
