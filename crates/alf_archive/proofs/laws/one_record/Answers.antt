use Rattle.alf_archive.proofs.ArchiveLaw.{one_record}
use Rattle.alf_archive.proofs.laws.one_record.Goals as goal

pub returns : goal.returns
returns c = one_record
